use Rattle.std.proofs.Common.{arith}
use Rattle.std.proofs.lemmas.Result.{on_ok_weaker}
use Rattle.sqlite.specs.Held.{state}
use Rattle.sqlite.specs.State.{HasCleanDisk}
use Rattle.opc_store_schema.specs.Making.{last, indexes}
use Rattle.opc_store_schema.proofs.Made.{makes_last, ran_then}
use Rattle.opc_store_schema.proofs.making.create_last_tables.Goals as goal

pub returns-clause-ran : goal.returns-clause-ran
returns-clause-ran g c clean =
    let early : HasCleanDisk (state g.S.Store c.run_all.new.tx.conn.now) = omega (arith, c.run_all-2.ensures.stays.survives.clean) in
    on_ok_weaker c.run_all-2.result (λ ran. ran_then g.S.Store last indexes c.args.tx.now.conn.now
    c.run_all.new.tx.conn.now c.run_all-2.new.tx.conn.now (c.in_ok-run_all.ensures.ran early) ran)
    (c.run_all-2.ensures.ran clean)

pub returns-clause-made : goal.returns-clause-made
returns-clause-made g c clean =
    let early : HasCleanDisk (state g.S.Store c.run_all.new.tx.conn.now) = omega (arith, c.run_all-2.ensures.stays.survives.clean) in
    makes_last g.S.Store c.args.tx.now.conn.now c.run_all.new.tx.conn.now c.run_all-2.new.tx.conn.now c.run_all-2.result
    (c.in_ok-run_all.ensures.ran early) (c.run_all-2.ensures.ran clean)
