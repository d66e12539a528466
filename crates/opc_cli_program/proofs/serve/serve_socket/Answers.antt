use Rattle.std.proofs.Common.{inr}
use Rattle.opc_http_requests.specs.declared.origins.Origins.TheVariants.{Any}
use Rattle.opc_cli_program.proofs.serve.serve_socket.Goals as goal

pub returns-clause-serves : goal.returns-clause-serves
returns-clause-serves g c = inr (c.in_ok-print_socket.ensures.said, c.serve_by.ensures.serves Any c.in-Ok.ensures)
