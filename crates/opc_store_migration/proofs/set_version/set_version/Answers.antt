use Rattle.std.proofs.Common.{arith}
use Rattle.sqlite.specs.Held.{state}
use Rattle.sqlite.specs.State.{HasCleanDisk}
use Rattle.opc_store_migration.proofs.Renewed.{renewed}
use Rattle.opc_store_migration.proofs.set_version.set_version.Goals as goal

pub returns-clause-renewed : goal.returns-clause-renewed
returns-clause-renewed g c clean version text_of s is was =
    let second : HasCleanDisk (state g.S.Store c.run-2.new.tx.conn.now) = omega (arith, c.in_ok-run-3.ensures.stays.survives.clean) in
    let first : HasCleanDisk (state g.S.Store c.run.new.tx.conn.now) = omega (arith, c.in_ok-run-2.ensures.stays.survives.clean) in
    renewed version text_of s is _ _ _ _ _ _ _ was (c.in_ok-run.ensures.ran first).executes
    (rw c.params-to_sql.ensures at (c.in_ok-run-2.ensures.ran second).executes)
    (c.in_ok-run-3.ensures.ran clean).executes
