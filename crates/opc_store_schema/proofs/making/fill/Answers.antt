use Rattle.std.proofs.Common.{arith, false}
use Rattle.sqlite.specs.Held.{state}
use Rattle.sqlite.specs.State.{HasCleanDisk}
use Rattle.opc_names.specs.declared.class.Class.TheVariants.{Console, Opercmds}
use Rattle.opc_store_schema.proofs.Filled.{adds_version, adds_class, adds_halted}
use Rattle.opc_store_schema.proofs.Made.{ran_each}
use Rattle.opc_store_schema.proofs.Ordered.{empty_ordered}
use Rattle.opc_store_schema.proofs.making.fill.Goals as goal

pub returns-clause-ran : goal.returns-clause-ran
returns-clause-ran g c clean =
    let third : HasCleanDisk (state g.S.Store c.run-3.new.tx.conn.now) = omega (arith, c.in_ok-run-4.ensures.stays.survives.clean) in
    let second : HasCleanDisk (state g.S.Store c.run-2.new.tx.conn.now) = omega (arith, c.in_ok-run-3.ensures.stays.survives.clean) in
    let first : HasCleanDisk (state g.S.Store c.run.new.tx.conn.now) = omega (arith, c.in_ok-run-2.ensures.stays.survives.clean) in
    ran_each g.S.Store c.args.tx.now.conn.now c.run.new.tx.conn.now c.run-2.new.tx.conn.now c.run-3.new.tx.conn.now
    c.run-4.new.tx.conn.now (rw c.params-to_sql.ensures at (c.in_ok-run.ensures.ran first))
    (rw (c.params-to_sql-2.ensures, c.params-to_sql-3.ensures) at (c.in_ok-run-2.ensures.ran second))
    (rw (c.params-to_sql-4.ensures, c.params-to_sql-5.ensures) at (c.in_ok-run-3.ensures.ran third))
    (rw c.params-to_sql-6.ensures at (c.in_ok-run-4.ensures.ran clean))

pub returns-clause-filled : goal.returns-clause-filled
returns-clause-filled g c clean was =
    let third : HasCleanDisk (state g.S.Store c.run-3.new.tx.conn.now) = omega (arith, c.in_ok-run-4.ensures.stays.survives.clean) in
    let second : HasCleanDisk (state g.S.Store c.run-2.new.tx.conn.now) = omega (arith, c.in_ok-run-3.ensures.stays.survives.clean) in
    let first : HasCleanDisk (state g.S.Store c.run.new.tx.conn.now) = omega (arith, c.in_ok-run-2.ensures.stays.survives.clean) in
    let version = adds_version _ _ _ _ was 3 (rw c.params-to_sql.ensures at (c.in_ok-run.ensures.ran first).executes) in
    let opercmds = adds_class _ _ _ _ version (Opercmds, false)
    (rw (c.params-to_sql-2.ensures, c.params-to_sql-3.ensures) at (c.in_ok-run-2.ensures.ran second).executes) in
    let console = adds_class _ _ _ _ opercmds (Console, false)
    (rw (c.params-to_sql-4.ensures, c.params-to_sql-5.ensures) at (c.in_ok-run-3.ensures.ran third).executes) in
    record { ordered = empty_ordered; rows = adds_halted _ _ _ _ console false (rw c.params-to_sql-6.ensures at (c.in_ok-run-4.ensures.ran clean).executes) }
