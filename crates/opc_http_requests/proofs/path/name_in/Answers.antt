use Rattle.std.proofs.Common.{sym}
use Rattle.opc_names.specs.Names.{console_rule}
use Rattle.opc_http_requests.proofs.Texts.{no-name}
use Rattle.opc_http_requests.proofs.path.name_in.Goals as goal

pub returns-in-Err : goal.returns-in-Err
returns-in-Err c = sym (no-name console_rule c.args.bytes.now c.in-Err.ensures.cases.0)
