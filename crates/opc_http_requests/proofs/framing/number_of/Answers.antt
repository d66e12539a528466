use Rattle.std.proofs.Common.{sym}
use Rattle.opc_http_requests.proofs.Numbers.{no-number}
use Rattle.opc_http_requests.proofs.framing.number_of.Goals as goal

pub returns-in-Err : goal.returns-in-Err
returns-in-Err c = sym (no-number 9 c.args.value.now c.in-Err.ensures.cases.0)
