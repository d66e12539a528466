use Rattle.std.proofs.lemmas.Result.{IfOk-weaker}
use Rattle.opc_check_reach.proofs.Formed.{met_decides}
use Rattle.opc_check_reach.proofs.met.is_met.Goals as goal

pub returns : goal.returns
returns c = IfOk-weaker c.decides.result _ _ (λ b is. rw is (met_decides c.args.pattern.now)) c.decides.ensures
