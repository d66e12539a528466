use Rattle.std.proofs.Common.{rules}
use Rattle.sqlite.specs.Held.{state}
use Rattle.sqlite.specs.Values.{bound}
use Rattle.opc_store_sql.proofs.Reading.{reads_survive, reads_same, reads_open, reads_was_open}
use Rattle.opc_store_sql.proofs.read.Goals as goal

pub returns-clause-looks : goal.returns-clause-looks
returns-clause-looks g c = record {
  survives = reads_survive c.args.sql.now (bound c.args.params.now) (state g.S.Store c.args.conn.now)
      (state g.S.Store c.query_all.new.self) c.requires.quiet c.query_all.ensures.survives;
  opened = λ clean. reads_open c.args.sql.now (bound c.args.params.now) (state g.S.Store c.args.conn.now)
      (state g.S.Store c.query_all.new.self) c.requires.quiet c.query_all.result (λ v. v.items)
      (c.query_all.ensures.ok clean);
  was_open = λ clean is_open. reads_was_open c.args.sql.now (bound c.args.params.now) (state g.S.Store c.args.conn.now)
      (state g.S.Store c.query_all.new.self) c.requires.quiet (c.is_autocommit-settled.ensures.settled (search rules))
      is_open
      c.query_all.result (λ v. v.items) (c.query_all.ensures.ok clean) (c.query_all.ensures.err clean);
  same = λ clean is_open. reads_same c.args.sql.now (bound c.args.params.now) (state g.S.Store c.args.conn.now)
      (state g.S.Store c.query_all.new.self) c.requires.quiet (c.is_autocommit-settled.ensures.settled (search rules))
      is_open
      c.query_all.result (λ v. v.items) (c.query_all.ensures.ok clean) (c.query_all.ensures.err clean);
}
