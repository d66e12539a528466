use Rattle.std.proofs.Common.{◌≤◌, ◌<◌, ◌+◌, length, ap, arith}
use Rattle.std.proofs.lemmas.List.{drop_all}
use Rattle.opc_check.specs.Problems.{problems_of}
use Rattle.opc_check.proofs.Applying.{applies, begins, ends, past}
use Rattle.opc_check.proofs.refusing.refused_of.Goals as goal

pub loop-row-init : goal.loop-row-init
loop-row-init c = record {
  follows = begins _ _ c.new-refused.ensures.policy c.new-refused.ensures.count (ap problems_of c.new-refused.ensures.problems);
  few = omega (arith, c.new-refused.ensures.count);
  count = omega arith;
}

pub loop-row-preserved : goal.loop-row-preserved
loop-row-preserved c =
    let held = c.loop-row.invariant in
    let low : c.loop-row.row-index < length c.args.rows.now = omega arith in
    record {
      follows = applies _ _ (c.loop-row.number + 1) c.row-item.result c.loop-row.refused _
          (past _ c.loop-row.row-index _ _ _ low c.row-item.is held.follows) c.in_ok-apply.ensures.policy
          c.in_ok-apply.ensures.count c.in_ok-apply.ensures.problems;
      few = omega (arith, c.in_ok-apply.ensures.few, held.few);
      count = omega (arith, held.count);
    }

pub returns : goal.returns
returns c =
    let over : length c.args.rows.now ≤ c.loop-row.row-index = omega arith in
    ends _ _ _ _ c.loop-row.invariant.follows (drop_all c.loop-row.row-index c.args.rows.now over)
