use Rattle.std.proofs.Common.{inr}
use Rattle.opc_cli_program.specs.Services.{origins_at}
use Rattle.opc_cli_program.proofs.serve.serve_at_port.Goals as goal

pub returns-clause-serves : goal.returns-clause-serves
returns-clause-serves g c =
    inr (
      c.in_ok-listener.listener,
      c.in_ok-listener.given,
      (c.in_ok-listener.ensures.listens, c.in_ok-print_port.ensures.said),
      c.serve_by.ensures.serves (origins_at c.args.clients.now.strict c.in_ok-listener.given)
          c.in_ok-routes.ensures.routes,
    )
