use Rattle.std.proofs.Common.{refl}
use Rattle.opc_decide_present.specs.Present.{IsDecided}
use Rattle.opc_http_serve.specs.Logging.{IsLineLogged}
use Rattle.opc_http_decide.specs.DecideLines.{IsToldLine}
use Rattle.opc_http_decide.specs.DecideResponses.{IsResponseTo}
use Rattle.opc_http_decide.proofs.Sending.{sent_by}
use Rattle.opc_http_decide.proofs.point.respond_to.Goals as goal

pub returns-in-Ok-clause-sent : goal.returns-in-Ok-clause-sent
returns-in-Ok-clause-sent g c =
    let point = c.args.point.now in
    sent_by (IsResponseTo point.base.now (IsDecided g.F.PolicyPlace.finds g.F.PolicyPlace.reads g.D.Decider.refuses
    g.D.Decider.answers point.policy.0 point.policy.1) c.args.request.now)
    (λ told. IsLineLogged g.L.Sink.held g.L.Sink.has_failed (IsToldLine c.args.moment told)) _ _ _ _ _ c.respond-served.result
    c.in-Ok.made.response.status c.in-Ok.made.response.bytes.items c.in-Ok.made.told c.in-Ok.ensures.response refl
    (rw c.as_str.ensures at c.log_told.ensures) c.respond-served.ensures.served c.respond-served.ensures.whole
    c.respond-served.ensures.fault c.respond-served.ensures.part
