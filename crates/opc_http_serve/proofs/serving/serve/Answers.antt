use Rattle.opc_http_serve.proofs.Clients.{one_served}
use Rattle.opc_http_serve.proofs.serving.serve.Goals as goal

pub loop-connection-preserved : goal.loop-connection-preserved
loop-connection-preserved g c = one_served _ _ _ _ _ _ _ _ _ _ _ _ _ _ _ c.loop-connection.invariant c.in_ok-serve_next.ensures.turn
