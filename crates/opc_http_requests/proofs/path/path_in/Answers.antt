use Rattle.opc_http_requests.proofs.Texts.{no-path}
use Rattle.opc_http_requests.proofs.path.path_in.Goals as goal

pub returns-in-Err : goal.returns-in-Err
returns-in-Err c = no-path c.args.target.now c.in-Err.ensures.cases.0
