-- Entries by their keys, and the access lists that they change.
use Rattle.std.proofs.Common.{◌≡◌, ◌≢◌, ℕ, List, [], ◌∷◌, ◌&&◌, ◌==◌, length, Bool, true, false, Option, Some, None, refl, ap, is_eq, IsPermutation}
use Rattle.std.specs.List.{flat_map, filter_map}
use Rattle.std.specs.Str.{bytes_eq}
use Rattle.std.proofs.lemmas.List.Sorted.{IsPermutation-sym, IsPermutation-trans}
use Rattle.std.proofs.lemmas.Map.Text.{is_eq-slice_cmp}
use Rattle.sqlite.specs.Order.{Row, column}
use Rattle.sqlite.specs.Table.{Table}
use Rattle.sqlite_rules.specs.Action.{works, work_by, pairs, deed_for}
use Rattle.sqlite_schema.specs.Rules.{parent_key}
use Rattle.std.specs.Option.{option_eq, option_cmp}
use Rattle.sqlite_schema.specs.Names.{same_name}
use Rattle.sqlite_schema.specs.declared.schema.Reference.{Reference}
use Rattle.sqlite_schema.specs.declared.schema.Keys.TheVariants.{Enforced}
use Rattle.sqlite_value.specs.Keys.{joined}
use Rattle.opc_store_sql.specs.Order.{text_cmp}
use Rattle.opc_store_sql.specs.Rows.{HasRows}
use Rattle.opc_names.specs.declared.class.Class.{Class}
use Rattle.opc_policy_members.specs.declared.entry.Entry.{Entry}
use Rattle.opc_policy_members.specs.declared.profile.Profile.{Profile}
use Rattle.opc_policy_members.specs.Access.{is_for}
use Rattle.opc_policy_members.specs.Profiles.{with_profile}
use Rattle.opc_state.specs.State.{State}
use Rattle.opc_state.specs.Changes.{with_profiles}
use Rattle.opc_store_schema.specs.Contents.{Contents}
use Rattle.opc_store_schema.specs.Tables.{the_schema}
use Rattle.opc_store_schema.specs.Placed.{entries_at}
use Rattle.opc_store_schema.specs.Represented.{contents_of, entry_rows, or_empty}
use Rattle.opc_store_schema.specs.State.{IsNamed}
use Rattle.opc_store_schema.proofs.ProfileTexts.{is_at}
use Rattle.opc_store_schema.proofs.AccessLists.{Split, listing, same_profiles}

pub same_rows : (xs ys rows : List Row) → IsPermutation xs ys → HasRows xs rows → HasRows ys rows
same_rows xs ys rows same h = record { each = IsPermutation-trans _ _ _ (IsPermutation-sym _ _ same) h.each; kept = h.kept }

pub idle : (olds news : List Row) → works the_schema Enforced 0 entries_at.tree olds news ≡ []
unfolding same_name joined
idle olds news = go (length news == 0)
  where
    go : (b : Bool)
        → flat_map (λ (child : Table). filter_map
        (λ (ref : Reference). work_by 0 entries_at.tree (pairs olds news) child ref (deed_for Enforced b ref)
        (parent_key the_schema.tables ref)) child.references) the_schema.tables ≡ []
    go true = refl
    go false = refl

-- what changes if an access list does
module _ (s : State) (class : Class) (pattern : List ℕ) (p : Profile) (it : Split class pattern s.policy.profiles p) (change : List Entry → List Entry) where
  abbrev pub after : List Profile
  after = with_profile (listing class pattern s.policy.profiles p it change) s.policy.profiles

  -- the profiles' own rows are the same, so only the entries must be put
  pub same_contents : contents_of (with_profiles after s) ≡ record (contents_of s) { entries = flat_map entry_rows after }
  same_contents = ap (λ (l : List Row). let c : Contents = record (contents_of s) {
    profiles = l;
    entries = flat_map entry_rows after;
  } in c) (same_profiles class pattern s.policy.profiles p it change)

-- ---- consoles, as the column holds them

pub same_consoles : (a b : Option (List ℕ)) → a ≢ Some [] → b ≢ Some [] → bytes_eq (or_empty a) (or_empty b) ≡ option_eq bytes_eq a b
same_consoles None None h k = refl
same_consoles None (Some []) h k = absurd (k refl)
same_consoles None (Some (d ∷ ds)) h k = refl
same_consoles (Some []) b h k = absurd (h refl)
same_consoles (Some (c ∷ cs)) None h k = refl
same_consoles (Some (c ∷ cs)) (Some b) h k = refl

pub tied_consoles : (a b : Option (List ℕ)) → a ≢ Some [] → b ≢ Some [] → is_eq (option_cmp text_cmp a b) ≡ bytes_eq (or_empty a) (or_empty b)
tied_consoles None None h k = refl
tied_consoles None (Some []) h k = absurd (k refl)
tied_consoles None (Some (d ∷ ds)) h k = refl
tied_consoles (Some []) b h k = absurd (h refl)
tied_consoles (Some (c ∷ cs)) None h k = refl
tied_consoles (Some (c ∷ cs)) (Some b) h k = is_eq-slice_cmp (c ∷ cs) b

pub at_console : (id : List ℕ) (when : Option (List ℕ)) → when ≢ Some [] → (e : Entry) → IsNamed e → is_at id (or_empty when) e ≡ is_for when id e
at_console id when named e is = ap (λ b. bytes_eq e.id id && b) (same_consoles e.when when is named)
