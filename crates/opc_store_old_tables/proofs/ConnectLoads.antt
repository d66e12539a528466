-- What the query on the connects of an older version reads.
use Rattle.std.proofs.Common.{◌≡◌, List, [], map, codes, refl}
use Rattle.sqlite.specs.Order.{Row}
use Rattle.sqlite.specs.Listing.{understood}
use Rattle.sqlite.specs.State.{State as SqlState, Shown}
use Rattle.sqlite_tied.specs.Compute.{everything}
use Rattle.sqlite_value.proofs.OrderLemmas.{value_cmp-Text}
use Rattle.opc_store_sql.proofs.Asked.{Asked, IsAsked, by_columns, columns, then_less, returned_all}
use Rattle.opc_policy_members.specs.Members.{name_cmp, connect_cmp}
use Rattle.opc_state.specs.State.{State}
use Rattle.opc_store_schema.specs.Represented.{connect_row}
use Rattle.opc_store_old_tables.specs.Tables.{Older, First, Second, old_schema, old_at}
use Rattle.opc_store_old_tables.specs.Old.{RepresentsOld}
use Rattle.opc_store_old_tables.proofs.Held.{held}

abbrev pub connects : Older → Asked
connects version = record {
  schema = old_schema version;
  text = codes "SELECT usr, grp FROM connects ORDER BY usr, grp";
  tree = (old_at version 14).tree;
  tests = [];
  project = columns 1 2;
  order = by_columns 1 2;
}

pub connects_asked : (version : Older) → IsAsked (connects version)
unfolding understood everything
connects_asked First = record { selects = refl; unlisted = refl; plain = (refl, refl); shows = λ schema base. refl }
connects_asked Second = record { selects = refl; unlisted = refl; plain = (refl, refl); shows = λ schema base. refl }

pub connects_returned : (version : Older) (old new : SqlState) (s : State) → RepresentsOld version old.now s
    → (rows : List Row) → Shown (connects version).text [] old new rows → rows ≡ map connect_row s.policy.connects
connects_returned version old new s was rows h =
    let has = held version old.now s was in
    returned_all (connects version) [] refl connect_row connect_cmp (λ _. refl)
    (λ x y h. rw (value_cmp-Text x.user y.user, value_cmp-Text x.group y.group)
    (then_less (name_cmp x.user y.user) (name_cmp x.group y.group) h)) (λ _. refl)
    (connects_asked version) old new has.schema s.policy.connects was.state.ordered.connects has.connects rows h
