use Rattle.std.proofs.Common.{arith, refl}
use Rattle.sqlite.specs.Held.{state}
use Rattle.sqlite.specs.State.{HasCleanDisk}
use Rattle.opc_store_sql.proofs.put.Goals as goal

pub returns-in_ok-run-clause-put : goal.returns-in_ok-run-clause-put
returns-in_ok-run-clause-put g c clean =
    let early : HasCleanDisk (state g.S.Store c.run.new.tx.conn.now) = omega (arith, c.in_ok-run.ensures.stays.survives.clean) in
    record {
      mid = c.run.new.tx.conn.now;
      found = c.in_ok-found.found;
      updates = c.in_ok-found.ensures.ran early;
      ends = λ some. absurd (some c.if-found-eq0.true);
      inserts = λ none. (_, c.in_ok-run.ensures.ran clean);
    }

pub returns-else-found-eq0-clause-put : goal.returns-else-found-eq0-clause-put
returns-else-found-eq0-clause-put g c clean = record {
  mid = c.run.new.tx.conn.now;
  found = c.in_ok-found.found;
  updates = c.in_ok-found.ensures.ran clean;
  ends = λ some. refl;
  inserts = λ none. absurd (c.if-found-eq0.false none);
}
