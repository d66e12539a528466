use Rattle.std.proofs.Common.{take}
use Rattle.opc_cli_script.specs.Handlers.{IsHeardBy}
use Rattle.opc_cli_script.proofs.handler.run_heard.Given as goal

abbrev pub invariant-loop-request : goal.invariant-loop-request
invariant-loop-request g l =
    (g.X.RequestHandler.meaning.is_sure l.gate → g.X.RequestHandler.meaning.is_sure l.fn.gate)
    × IsHeardBy g.X.RequestHandler.meaning g.X.RequestHandler.handled g.L.Listener.heard l.fn.gate l.gate
    (take l.request-index l.requests) l.fn.listener l.listener
