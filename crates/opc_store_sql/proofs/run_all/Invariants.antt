use Rattle.std.proofs.Common.{◌≡◌, map, take, Ok, Result}
use Rattle.sqlite.specs.declared.error.Error.{Error}
use Rattle.sqlite.specs.Held.{state}
use Rattle.sqlite.specs.State.{HasCleanDisk}
use Rattle.opc_store_sql.specs.Steps.{Stays, RanAll}
use Rattle.opc_store_sql.proofs.run_all.Given as goal

abbrev pub invariant-loop-statement : goal.invariant-loop-statement
invariant-loop-statement g l =
    let old = l.fn.tx.conn.now in
    let now = l.tx.conn.now in
    let ok : Result (Unit {0}) Error = Ok tt in
    (l.tx.conn.ghost_name ≡ l.fn.tx.conn.ghost_name)
    × Stays g.S.Store old now ok
    × (HasCleanDisk (state g.S.Store now) → RanAll g.S.Store (map (λ s. s.now) (take l.statement-index l.statements)) old now)
