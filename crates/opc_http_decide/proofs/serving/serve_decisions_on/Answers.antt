use Rattle.std.proofs.Common.{◌≡◌}
use Rattle.opc_http_serve.proofs.Clients.{from_anywhere}
use Rattle.opc_http_serve.proofs.Coming.{comes_there, stays_there}
use Rattle.opc_http_questions.specs.Questions.{MayReadQuestion}
use Rattle.opc_http_decide.specs.DecideExchanges.{IsPointExchange}
use Rattle.opc_http_decide.proofs.serving.serve_decisions_on.Goals as goal

pub returns : goal.returns
returns g c =
    let listener = c.args.listener.now in
    let served =
    from_anywhere _ _ (MayReadQuestion c.args.origins.now) (IsPointExchange g.F.PolicyPlace.finds g.F.PolicyPlace.reads
    g.D.Decider.refuses g.D.Decider.answers g.K.Sink.held g.K.Sink.has_failed c.args.origins.now) _ _ c.args.rt.now c.args.timeout
    c.new-acceptor.result _ _ (λ a. a.listener.now ≡ listener)
    (comes_there (λ a. a.listener.now) listener g.L.ClientListener.accepts g.L.Client.Connection.clones)
    (stays_there (λ a. a.listener.now) listener) _ _ _ c.serve.result c.new-acceptor.ensures c.serve.ensures.done c.serve.ensures.ended in
    record { served = served }
