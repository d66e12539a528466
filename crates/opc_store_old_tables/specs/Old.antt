-- When the tables of version 1 or 2 represent a state.
use Rattle.std.specs.Prelude.{◌≡◌, ℕ, pos, false, List, [], ◌∷◌, map, flat_map, None, Ok}
use Rattle.std.specs.List.{AllByRecursion}
use Rattle.sqlite_value.specs.declared.value.Value.TheVariants.{Null, Int, Text}
use Rattle.sqlite_value.specs.Order.{Row}
use Rattle.sqlite_trees.specs.Tree.{Trees}
use Rattle.sqlite_trees.specs.Objects.{catalog_tree}
use Rattle.sqlite_catalog.specs.Listing.{Lists}
use Rattle.sqlite.specs.Effect.{Database}
use Rattle.opc_names.specs.declared.class.Class.{Class}
use Rattle.opc_names.specs.Authority.{level_rank}
use Rattle.opc_names.specs.Spellings.{class_text}
use Rattle.opc_policy_members.specs.declared.entry.Entry.{Entry}
use Rattle.opc_policy_members.specs.declared.profile.Profile.{Profile}
use Rattle.opc_policy_members.specs.declared.user.User.{User}
use Rattle.opc_import.specs.Files.{policy_of}
use Rattle.opc_state.specs.declared.change.Batch.{Batch}
use Rattle.opc_state.specs.Changes.{with_batches}
use Rattle.opc_state.specs.Members.{batch_cmp}
use Rattle.opc_state.specs.State.{State}
use Rattle.opc_store_sql.specs.Order.{Rises}
use Rattle.opc_store_sql.specs.Rows.{AreFilled, HasTables, numbered_row}
use Rattle.opc_store_schema.specs.Contents.{Contents, as_list}
use Rattle.opc_store_schema.specs.Represented.{contents_of, version_row, flag, or_null, definition_row, profile_row}
use Rattle.opc_store_schema.specs.State.{IsOrdered}
use Rattle.opc_store_old_tables.specs.Tables.{Older, First, Second, version_number, old_schema}

abbrev pub old_user_row : User → Row
old_user_row u = Text u.id ∷ flag u.special ∷ flag u.auditor ∷ flag u.revoked ∷ or_null u.digest ∷ []

abbrev pub old_profile_row : Older → Profile → Row
old_profile_row First = definition_row
old_profile_row Second = profile_row

abbrev pub old_entry_row : Class → List ℕ → Entry → Row
old_entry_row class pattern e = Text (class_text class) ∷ Text pattern ∷ Text e.id ∷ Int (pos (level_rank e.level)) ∷ []

abbrev pub old_entry_rows : Profile → List Row
old_entry_rows p = map (old_entry_row p.class p.pattern) p.entries

-- a batch is stored as a text, whatever its header
abbrev pub old_batch_values : (Batch → List ℕ) → Batch → Row
old_batch_values text_of b = Null ∷ Text (text_of b) ∷ []

abbrev pub old_batch_row : (Batch → List ℕ) → Batch → Row
old_batch_row text_of b = numbered_row (old_batch_values text_of) b.number b

-- the rows of each table: those of version 3, except these
abbrev pub old_contents : Older → (Batch → List ℕ) → State → Contents
old_contents version text_of s = record (contents_of s) {
  meta = version_row (version_number version) ∷ [];
  batches = map (old_batch_row text_of) s.batches;
  usr = map old_user_row s.policy.users;
  profiles = map (old_profile_row version) s.policy.profiles;
  entries = flat_map old_entry_rows s.policy.profiles;
}

abbrev pub IsUnrestricted : User → Type 0
IsUnrestricted u = u.restricted ≡ false

-- it counts at every console
abbrev pub IsPlain : Entry → Type 0
IsPlain e = e.when ≡ None

-- each text has the rows of its batch
abbrev pub AreSaid : (Batch → List ℕ) → List Batch → Type 0
AreSaid text_of batches = AllByRecursion (λ (b : Batch). policy_of (text_of b) ≡ Ok b.rows) batches

-- A state that these tables can represent: in order, nobody is RESTRICTED, no entry is at a console, and each batch has
-- a text with its rows.
pub record IsOldState (text_of : Batch → List ℕ) (s : State) : Type 0 where
  pub ordered : IsOrdered (with_batches [] s)
  pub users : AllByRecursion IsUnrestricted s.policy.users
  pub entries : AllByRecursion (λ (p : Profile). AllByRecursion IsPlain p.entries) s.policy.profiles
  pub batches : Rises batch_cmp s.batches
  pub said : AreSaid text_of s.batches

-- one row for each member of the state and no other
pub record RepresentsOld (version : Older) (db : Database) (s : State) : Type 0 where
  pub text_of : Batch → List ℕ
  pub state : IsOldState text_of s
  pub tables : HasTables (old_schema version) (as_list (old_contents version text_of s)) db

-- The same for trees alone, as an opening finds them: they list the tables, and hold the rows.
pub record AreOldTablesOf (version : Older) (trees : Trees) (s : State) : Type 0 where
  pub text_of : Batch → List ℕ
  pub state : IsOldState text_of s
  pub lists : Lists (trees catalog_tree) (old_schema version)
  pub filled : AreFilled (old_schema version).tables (as_list (old_contents version text_of s)) trees
