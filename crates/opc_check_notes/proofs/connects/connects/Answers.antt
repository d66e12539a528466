use Rattle.std.proofs.lemmas.Result.{IfOk-weaker}
use Rattle.opc_check_notes.proofs.Placing.{has_partners}
use Rattle.opc_check_notes.proofs.connects.connects.Goals as goal

pub returns : goal.returns
returns c =
    IfOk-weaker c.sorted.result _ _ (λ kept same. has_partners c.args.rows.now c.args.side _ kept c.in_ok-pairs.ensures same) c.sorted.ensures.keys
