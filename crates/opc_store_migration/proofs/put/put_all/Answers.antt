use Rattle.std.proofs.Common.{arith}
use Rattle.std.proofs.lemmas.Result.{on_ok_weaker}
use Rattle.sqlite.specs.Held.{state}
use Rattle.sqlite.specs.State.{HasCleanDisk}
use Rattle.opc_store_migration.proofs.put.put_all.Goals as goal

pub returns-clause-done : goal.returns-clause-done
returns-clause-done g c clean =
    let third : HasCleanDisk (state g.S.Store c.apply_all-3.new.tx.conn.now) = omega (arith, c.apply_all-4.ensures.stays.survives.clean) in
    let second : HasCleanDisk (state g.S.Store c.apply_all-2.new.tx.conn.now) = omega (arith, c.in_ok-apply_all-3.ensures.stays.survives.clean) in
    let first : HasCleanDisk (state g.S.Store c.apply_all.new.tx.conn.now) = omega (arith, c.in_ok-apply_all-2.ensures.stays.survives.clean) in
    let users = rw c.as_slice.ensures.value at c.in_ok-apply_all.ensures.done in
    let connects = rw c.as_slice-2.ensures.value at c.in_ok-apply_all-2.ensures.done in
    let profiles = rw c.as_slice-3.ensures.value at c.in_ok-apply_all-3.ensures.done in
    let batches = rw c.as_slice-4.ensures.value at c.apply_all-4.ensures.done in
    on_ok_weaker c.apply_all-4.result (λ done s was. done _ (profiles third _ (connects second _ (users first s was)))) (batches clean)
