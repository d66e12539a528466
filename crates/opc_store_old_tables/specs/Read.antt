-- What is read of the tables of version 1 or 2.
use Rattle.std.specs.Prelude.{◌≡◌, ℕ, pos, List, [], ◌∷◌, map, Some, Result, IfOk}
use Rattle.std.specs.List.{AllByRecursion}
use Rattle.std.specs.Ordering.{ordering_then}
use Rattle.std.specs.declared.cmp.Ordering.{Ordering}
use Rattle.sqlite_trees.specs.declared.store.Store.{Ghosts}
use Rattle.sqlite_keyed.specs.Lists.{sort_by}
use Rattle.sqlite_value.specs.declared.value.Value.TheVariants.{Int, Text}
use Rattle.sqlite_value.specs.Order.{Row}
use Rattle.sqlite.specs.State.{HasCleanDisk}
use Rattle.sqlite.specs.Held.{Held, state}
use Rattle.opc_names.specs.Spellings.{class_text}
use Rattle.opc_policy_members.specs.declared.connect.Connect.{Connect}
use Rattle.opc_policy_members.specs.declared.profile.Profile.{Profile}
use Rattle.opc_policy_members.specs.declared.user.User.{User}
use Rattle.opc_policy_members.specs.Members.{name_cmp}
use Rattle.opc_policy_members.specs.Profiles.{profile_of}
use Rattle.opc_state.specs.declared.change.Batch.{Batch}
use Rattle.opc_state.specs.declared.change.Edit.{Edit}
use Rattle.opc_state.specs.declared.change.Edit.TheVariants as edit
use Rattle.opc_state.specs.State.{State}
use Rattle.opc_store_old_tables.specs.Tables.{Older}
use Rattle.opc_store_old_tables.specs.Old.{RepresentsOld}
pub use Rattle.opc_store_old_tables.specs.Old.{AreSaid}

-- on a clean disk a success returns this of the state that the tables represented before
abbrev pub FindsOld : {S : Type 0} → Ghosts S → {V E : Type 0} → Held S → Held S → Result V E → (State → V → Type 0)
    → Type 0
FindsOld g old new result asked =
    HasCleanDisk (state g new) → (version : Older) (s : State) → RepresentsOld version (state g old).now s
    → IfOk result (asked s)

-- by the texts of their class and their pattern, since there may be no sort key to sort by
abbrev pub text_order : Profile → Profile → Ordering
text_order p q = ordering_then (name_cmp (class_text p.class) (class_text q.class)) (name_cmp p.pattern q.pattern)

abbrev pub by_text : List Profile → List Profile
by_text profiles = sort_by text_order profiles

-- each of some profiles is the one of its class and pattern among these
abbrev pub AreAmong : List Profile → List Profile → Type 0
AreAmong profiles some = AllByRecursion (λ (p : Profile). profile_of profiles p.class p.pattern ≡ Some p) some

-- as a query returns them
abbrev pub batch_shown : (Batch → List ℕ) → Batch → Row
batch_shown text_of b = Int (pos b.number) ∷ Text (text_of b) ∷ []

-- the upserts of these, one after another
abbrev pub user_puts : List User → List Edit
user_puts users = map (λ (u : User). edit.PutUser u) users

abbrev pub connect_puts : List Connect → List Edit
connect_puts connects = map (λ (c : Connect). edit.PutConnect c) connects

abbrev pub profile_puts : List Profile → List Edit
profile_puts profiles = map (λ (p : Profile). edit.PutProfile p) profiles

abbrev pub batch_puts : List Batch → List Edit
batch_puts batches = map (λ (b : Batch). edit.PutBatch b) batches
