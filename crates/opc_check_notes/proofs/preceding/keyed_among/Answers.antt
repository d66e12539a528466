use Rattle.std.proofs.Common.{arith}
use Rattle.opc_check_notes.proofs.Before.{keyed_step}
use Rattle.opc_check_notes.proofs.preceding.keyed_among.Goals as goal

pub loop-at-preserved : goal.loop-at-preserved
loop-at-preserved c =
    keyed_step c.args.rows.now c.loop-at.at-index c.at-item.result _ _ _ (omega arith) c.at-item.is c.keyed.ensures.keyed
    c.keyed.ensures.valid c.loop-at.invariant c.in_ok-push_if.ensures
