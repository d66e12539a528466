-- What the query on the users of an older version reads.
use Rattle.std.proofs.Common.{◌≡◌, pos, false, List, [], ◌∷◌, ◌++◌, map, codes, refl, sym, ap, ap₂, ◌∙◌, Bool}
use Rattle.std.specs.List.{AllByRecursion}
use Rattle.sqlite.specs.Order.{Row}
use Rattle.sqlite.specs.Term.{lit}
use Rattle.sqlite.specs.declared.types.Value.TheVariants.{Int}
use Rattle.sqlite.specs.Listing.{understood}
use Rattle.sqlite.specs.State.{State as SqlState, Shown}
use Rattle.sqlite_tied.specs.Compute.{everything}
use Rattle.sqlite_value.proofs.OrderLemmas.{value_cmp-Text}
use Rattle.opc_store_sql.proofs.Asked.{Asked, IsAsked, by_columns, columns, returned_all_shown}
use Rattle.opc_policy_members.specs.declared.user.User.{User}
use Rattle.opc_policy_members.specs.Members.{user_cmp}
use Rattle.opc_state.specs.State.{State}
use Rattle.opc_store_schema.specs.Represented.{user_row}
use Rattle.opc_store_old_tables.specs.Tables.{Older, First, Second, old_schema, old_at}
use Rattle.opc_store_old_tables.specs.Old.{RepresentsOld, IsUnrestricted, old_user_row}
use Rattle.opc_store_old_tables.proofs.Held.{held}

abbrev pub users : Older → Asked
users version = record {
  schema = old_schema version;
  text = codes "SELECT id, special, auditor, revoked, digest, 0 FROM usr ORDER BY id";
  tree = (old_at version 13).tree;
  tests = [];
  project = columns 1 5 ++ lit (Int (pos 0)) ∷ [];
  order = by_columns 1 1;
}

pub users_asked : (version : Older) → IsAsked (users version)
unfolding understood everything
users_asked First = record { selects = refl; unlisted = refl; plain = (refl, refl); shows = λ schema base. refl }
users_asked Second = record { selects = refl; unlisted = refl; plain = (refl, refl); shows = λ schema base. refl }

-- as one who is not RESTRICTED
abbrev shown : User → Row
shown u = user_row (record u { restricted = false })

all_shown : (us : List User) → AllByRecursion IsUnrestricted us → map shown us ≡ map user_row us
all_shown [] h = refl
all_shown (u ∷ us) h = ap₂ (λ (r : Row) (l : List Row). r ∷ l) (ap (λ (b : Bool). user_row (record u { restricted = b })) (sym h.0)) (all_shown us h.1)

pub users_returned : (version : Older) (old new : SqlState) (s : State) → RepresentsOld version old.now s
    → (rows : List Row) → Shown (users version).text [] old new rows → rows ≡ map user_row s.policy.users
users_returned version old new s was rows h =
    let has = held version old.now s was in
    returned_all_shown (users version) [] refl old_user_row shown user_cmp (λ _. refl)
    (λ x y h. rw (value_cmp-Text x.id y.id, h)) (λ _. refl) (users_asked version) old new has.schema s.policy.users
    was.state.ordered.users has.usr rows h
    ∙ all_shown s.policy.users was.state.users
