use Rattle.std.proofs.lemmas.Result.{IfErr-weaker, IfOk-weaker}
use Rattle.opc_cli_questions.proofs.Files.{opened_is_read, opened_is_read_from, opened_is_unread}
use Rattle.opc_cli_questions.proofs.policy_file.read_rows_at.Goals as goal

pub returns-in-Ok-clause-rows : goal.returns-in-Ok-clause-rows
returns-in-Ok-clause-rows g c = IfOk-weaker c.read_rows.result _ _ (λ file. opened_is_read _ _ file.rows.items c.in-Ok.ensures) c.read_rows.ensures.rows

pub returns-in-Ok-clause-bytes : goal.returns-in-Ok-clause-bytes
returns-in-Ok-clause-bytes g c = IfOk-weaker c.read_rows.result _ _
    (λ file. opened_is_read_from _ _ file.bytes.items file.rows.items c.in-Ok.ensures) c.read_rows.ensures.bytes

pub returns-in-Ok-clause-fault : goal.returns-in-Ok-clause-fault
returns-in-Ok-clause-fault g c = IfErr-weaker c.read_rows.result _ _ (λ failure. opened_is_unread _ _ failure.fault c.in-Ok.ensures) c.read_rows.ensures.fault
