use Rattle.std.proofs.Common.{◌≡◌, List, false}
use Rattle.sqlite.specs.Order.{Row}
use Rattle.sqlite.specs.State.{HasCleanDisk, IsUnchanged, Survives}
use Rattle.sqlite.specs.Held.{state}
use Rattle.sqlite.specs.Given.{HasGiven}
use Rattle.sqlite.specs.Values.{bound}
use Rattle.opc_store_sql.proofs.Streams.{HasTaken}
use Rattle.opc_policy_members.specs.declared.profile.Profile.{Profile}
use Rattle.opc_state.specs.State.{State}
use Rattle.opc_store_schema.specs.Represented.{Represents, profile_row}
use Rattle.opc_store_search.specs.Search.{Selects, covers}
use Rattle.opc_store_search.proofs.search.first_covering_on.Given as goal

abbrev pub invariant-rows : goal.invariant-rows
invariant-rows g l =
    let old = state g.S.Store l.fn.conn in
    let now = state g.S.Store l.rows.conn.now in
    (l.rows.conn.ghost_name ≡ l.initial.rows.conn.ghost_name) × (l.rows.conn.now.in_transaction ≡ false) × Survives old now (λ _. ⊥)
    × (HasCleanDisk now → IsUnchanged old now × (given : List Row) × HasGiven g.S.Store l.fn.sql (bound l.fn.params) l.rows.conn.now given
    × ((select : State → List Profile) → Selects g.S.Store l.fn.sql (bound l.fn.params) select → (s : State)
    → Represents old.now s → HasTaken profile_row (covers l.resource) (select s) given l.at))
