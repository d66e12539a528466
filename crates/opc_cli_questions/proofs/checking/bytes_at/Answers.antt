use Rattle.std.proofs.lemmas.Result.{IfOk-weaker}
use Rattle.opc_cli_questions.proofs.Bytes.{opened_is_first}
use Rattle.opc_cli_questions.proofs.checking.bytes_at.Goals as goal

pub returns-in-Ok-clause-bytes : goal.returns-in-Ok-clause-bytes
returns-in-Ok-clause-bytes g c =
    IfOk-weaker c.bytes_of.result _ _ (λ bytes. opened_is_first _ _ bytes.items c.in-Ok.ensures) c.bytes_of.ensures.bytes
