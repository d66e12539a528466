use Rattle.std.proofs.Common.{arith, subst}
use Rattle.std.proofs.lemmas.List.{take_all}
use Rattle.std.proofs.lemmas.Result.{err_from_is_err_and}
use Rattle.opc_cli_script.specs.Handlers.{IsHeardBy}
use Rattle.opc_cli_script.proofs.Steps.{heard_last, heard_more, heard_none}
use Rattle.opc_cli_script.proofs.handler.run_heard.Goals as goal

pub loop-request-init : goal.loop-request-init
loop-request-init g c =
    ((λ sure. sure), heard_none g.X.RequestHandler.handled g.X.RequestHandler.meaning g.L.Listener.heard _ _)

pub returns-in_err-hear-clause-ended : goal.returns-in_err-hear-clause-ended
returns-in_err-hear-clause-ended g c =
    let handled = c.handle_one-answer.ensures in
    let err = err_from_is_err_and c.from_residual.result c.from_residual.ensures.1 in
    rw (err.1, err.2)
    (heard_last g.X.RequestHandler.handled g.X.RequestHandler.meaning g.L.Listener.heard g.L.Listener.missed
    c.args.requests.now c.loop-request.request-index c.request-item.result _ _ _ _ _ _ c.handle_one-answer.result _
    (omega arith) c.request-item.is
    c.loop-request.invariant.1 (handled.sure, handled.handled) handled.more c.in_err-hear.ensures.missed)

pub loop-request-preserved : goal.loop-request-preserved
loop-request-preserved g c =
    let was = c.loop-request.invariant in
    let handled = c.handle_one-answer.ensures in (
      λ sure. was.0 (handled.sure sure),
      heard_more g.X.RequestHandler.handled g.X.RequestHandler.meaning g.L.Listener.heard c.args.requests.now
          c.loop-request.request-index c.request-item.result _ _ _ _ _ _ c.handle_one-answer.result (omega arith)
          c.request-item.is
          was.1 (handled.sure, handled.handled) handled.more c.in_ok-hear.ensures.heard,
    )

pub returns-clause-heard : goal.returns-clause-heard
returns-clause-heard g c =
    subst (λ requests. IsHeardBy g.X.RequestHandler.meaning g.X.RequestHandler.handled g.L.Listener.heard c.args.gate.now c.loop-request.gate
    requests c.args.listener.now c.loop-request.listener)
    (take_all c.loop-request.request-index c.args.requests.now
    (omega (arith, c.loop-request-test.false, c.loop-request.auto.request-index-end)))
    c.loop-request.invariant.1
