use Rattle.std.proofs.Common.{◌≡◌, drop, Ok, Result}
use Rattle.sqlite.specs.declared.error.Error.{Error}
use Rattle.sqlite.specs.Held.{state}
use Rattle.sqlite.specs.State.{HasCleanDisk}
use Rattle.opc_store_sql.specs.Steps.{Stays}
use Rattle.opc_store_schema.specs.Represented.{Represents}
use Rattle.opc_state.specs.Changes.{all_edited}
use Rattle.opc_store_schema.proofs.EditsInOrder.{IsOnTheWay}
use Rattle.opc_store_commit.proofs.commit.apply_all.Given as goal

abbrev pub invariant-loop-edit : goal.invariant-loop-edit
invariant-loop-edit g l =
    let old = l.fn.tx.conn.now in
    let now = l.tx.conn.now in
    let ok : Result (Unit {0}) Error = Ok tt in
    (l.tx.conn.ghost_name ≡ l.fn.tx.conn.ghost_name)
    × Stays g.S.Store old now ok
    × (HasCleanDisk (state g.S.Store now) → (s : _) → Represents (state g.S.Store old).now s
    → IsOnTheWay (drop l.edit-index l.edits) (all_edited l.edits s) (state g.S.Store now).now)
