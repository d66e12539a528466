use Rattle.opc_store_migration.proofs.Dropped.{all_dropped}
use Rattle.opc_store_migration.proofs.recreate_tables.drop_last_tables.Goals as goal

pub returns-clause-dropped : goal.returns-clause-dropped
returns-clause-dropped g c clean = all_dropped g.S.Store c.args.tx.now.conn.now c.run_all.new.tx.conn.now c.run_all.result (c.run_all.ensures.ran clean)
