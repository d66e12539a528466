use Rattle.std.proofs.Common.{arith}
use Rattle.opc_answers_diff.proofs.Named.{ids_more}
use Rattle.opc_answers_diff.proofs.members.add_ids.Goals as goal

pub loop-member-preserved : goal.loop-member-preserved
loop-member-preserved c = ids_more c.args.members.now c.loop-member.member-index c.member-item.result _ _ _ (omega arith)
    c.member-item.is c.loop-member.invariant c.in_ok-insert.ensures.keys
