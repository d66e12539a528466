use Rattle.std.proofs.Common.{sym}
use Rattle.opc_http_questions.proofs.Ids.{no-id}
use Rattle.opc_http_questions.proofs.id.id_by.Goals as goal

pub returns-in-Err : goal.returns-in-Err
returns-in-Err c = sym (no-id c.args.value.now c.in-Err.ensures.cases.0)
