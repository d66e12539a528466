use Rattle.std.proofs.Common.{◌++◌, arith}
use Rattle.std.proofs.lemmas.Result.{on_ok_weaker}
use Rattle.sqlite.specs.Held.{state}
use Rattle.sqlite.specs.State.{HasCleanDisk}
use Rattle.opc_store_schema.specs.Making.{lasting, last, indexes}
use Rattle.opc_store_schema.proofs.Made.{makes_lasting, all_made, ran_then}
use Rattle.opc_store_schema.proofs.making.create_tables.Goals as goal

pub returns-clause-ran : goal.returns-clause-ran
returns-clause-ran g c clean =
    let early : HasCleanDisk (state g.S.Store c.run_all.new.tx.conn.now) = omega (arith, c.create_last_tables.ensures.stays.survives.clean) in
    on_ok_weaker c.create_last_tables.result
    (λ ran. ran_then g.S.Store lasting (last ++ indexes) c.args.tx.now.conn.now c.run_all.new.tx.conn.now
    c.create_last_tables.new.tx.conn.now (c.in_ok-run_all.ensures.ran early) ran)
    (c.create_last_tables.ensures.ran clean)

pub returns-clause-made : goal.returns-clause-made
returns-clause-made g c clean =
    let early : HasCleanDisk (state g.S.Store c.run_all.new.tx.conn.now) = omega (arith, c.create_last_tables.ensures.stays.survives.clean) in
    on_ok_weaker c.create_last_tables.result
    (λ made none. all_made g.S.Store c.create_last_tables.new.tx.conn.now
    (made _ (makes_lasting g.S.Store c.args.tx.now.conn.now c.run_all.new.tx.conn.now none
    (c.in_ok-run_all.ensures.ran early)))) (c.create_last_tables.ensures.made clean)
