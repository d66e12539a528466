use Rattle.std.proofs.Common.{arith}
use Rattle.std.specs.BTreeSet.{contains}
use Rattle.std.specs.Cmp.Lexicographic.{slice_cmp}
use Rattle.std.specs.Ordering.{nat_cmp}
use Rattle.opc_policy_deciders.proofs.Among.{one_more}
use Rattle.opc_policy_deciders.proofs.candidates.set_of.Goals as goal

pub loop-pattern-preserved : goal.loop-pattern-preserved
loop-pattern-preserved c =
    one_more c.args.patterns.now c.loop-pattern.pattern-index c.pattern-item.result (contains (slice_cmp nat_cmp) c.loop-pattern.set)
    (contains (slice_cmp nat_cmp) c.insert.new.self) (omega arith) c.pattern-item.is c.in_ok-insert.ensures.updates.0 c.loop-pattern.invariant
