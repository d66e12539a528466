use Rattle.std.proofs.Common.{arith}
use Rattle.opc_answers_diff.proofs.ById.{member_more}
use Rattle.opc_answers_diff.proofs.members.members_by_id.Goals as goal

pub loop-member-preserved : goal.loop-member-preserved
loop-member-preserved c = λ id.
    member_more c.args.members.now c.loop-member.member-index c.member-item.result id _ _ (omega arith) c.member-item.is
    (c.loop-member.invariant id) (c.in_ok-keep_member.ensures id)
