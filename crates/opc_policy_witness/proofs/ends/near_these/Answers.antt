use Rattle.std.proofs.Common.{arith}
use Rattle.opc_policy_witness.proofs.Meeting.{all_near, one_far, one_near}
use Rattle.opc_policy_witness.proofs.ends.near_these.Goals.{then-may_share_ends+in_ok-push, else-may_share_ends}
use Rattle.opc_policy_witness.proofs.ends.near_these.Goals as goal

pub loop-pattern-preserved : goal.loop-pattern-preserved
loop-pattern-preserved c =
    let include = c.args.include.now in
    let patterns = c.args.patterns.now in
    let near = c.loop-pattern.near.items in
    let i = c.loop-pattern.pattern-index in
    elim c.if-may_share_ends.branch [
      | then-may_share_ends+in_ok-push w ↦
          rw w.near-is (one_near include patterns near w.push.new.self.items i c.pattern-item.result c.loop-pattern-test.true c.pattern-item.is
          w.in_ok-push.ensures.items c.loop-pattern.invariant)
      | else-may_share_ends w ↦
          rw w.near-is (one_far include patterns near i c.pattern-item.result c.loop-pattern-test.true c.pattern-item.is
          (c.may_share_ends.ensures w.if-may_share_ends.false) c.loop-pattern.invariant)
    ]

pub returns : goal.returns
returns c =
    all_near c.args.include.now c.args.patterns.now c.loop-pattern.near.items c.loop-pattern.pattern-index
    (omega (arith, c.loop-pattern-test.false)) c.loop-pattern.invariant
