use Rattle.std.proofs.lemmas.Result.{IfOk-weaker}
use Rattle.opc_check_notes.proofs.Before.{met_so}
use Rattle.opc_check_notes.proofs.deciding.is_met.Goals as goal

pub returns : goal.returns
returns c = IfOk-weaker c.is_met.result _ _ (λ b says. met_so c.args.pattern.now b says) c.is_met.ensures
