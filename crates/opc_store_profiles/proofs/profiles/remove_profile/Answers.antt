use Rattle.std.proofs.Common.{arith}
use Rattle.sqlite.specs.Held.{state}
use Rattle.sqlite.specs.State.{HasCleanDisk}
use Rattle.opc_store_schema.proofs.Ordered.{without_profile_ordered}
use Rattle.opc_store_profiles.proofs.ProfileRows.{list_goes, profile_goes}
use Rattle.sqlite.specs.declared.error.Error.{Error}
use Rattle.opc_store_sql.proofs.StepsInOrder.{stays_for, stays_then}
use Rattle.opc_store_profiles.proofs.profiles.remove_profile.Goals as goal

pub returns-clause-done : goal.returns-clause-done
returns-clause-done g c clean s was =
    let early : HasCleanDisk (state g.S.Store c.run.new.tx.conn.now) = omega (arith, c.in_ok-run-2.ensures.stays.survives.clean) in
    let class = c.args.class in
    let pattern = c.args.pattern.now in
    let gone = list_goes _ _ _ s class pattern was.rows
    (rw (c.params-to_sql.ensures, c.params-to_sql-2.ensures, c.text.ensures.text, c.text-2.ensures.text) at
    (c.in_ok-run.ensures.ran early).executes) in
    record {
      ordered = without_profile_ordered s was.ordered class pattern;
      rows = profile_goes _ _ _ s class pattern gone
          (rw (c.params-to_sql-3.ensures, c.params-to_sql-4.ensures, c.text-3.ensures.text, c.text-4.ensures.text) at
          (c.in_ok-run-2.ensures.ran clean).executes);
    }

pub returns-clause-stays : goal.returns-clause-stays
returns-clause-stays g c =
    let both = stays_then g.S.Store _ _ Error Error _ _ _ c.run.new.tx.conn.now c.run-2.new.tx.conn.now c.in_ok-run.ensures.stays c.in_ok-run-2.ensures.stays in
    stays_for g.S.Store _ _ Error _ tt _ _ both
