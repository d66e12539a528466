use Rattle.std.proofs.Common.{◌≡◌}
use Rattle.opc_http_serve.proofs.Clients.{all_handled, from_anywhere, sure}
use Rattle.opc_http_serve.proofs.Coming.{comes_there, stays_there}
use Rattle.opc_http_serve.proofs.Projecting.{all_served, cut_short}
use Rattle.opc_http_requests.specs.Asked.{MayRead}
use Rattle.opc_http_serve.specs.Handled.{IsExchange}
use Rattle.opc_http_serve.specs.Logging.{IsServiceExchange}
use Rattle.opc_http_serve.proofs.serving.serve_logged_on.Goals as goal

pub returns-clause-sure : goal.returns-clause-sure
returns-clause-sure g c =
    let m = g.T.Tables.meaning in
    sure _ m _ _ _ _ _ _ _ _ _ _ _ c.serve.result
    (all_served _ _ (MayRead c.args.routes.now) (IsServiceExchange g.K.Sink.held g.K.Sink.has_failed
    g.N.Folder.holds g.N.Folder.writes g.N.Folder.publishes c.args.routes.now m) (IsExchange c.args.routes.now m)
    (λ s. s.gate) (λ old left moment before after ended new one. one.exchanged) _ _ _ _ _ _ _ _ _ c.serve.result c.serve.ensures.done)
    (cut_short _ _ (MayRead c.args.routes.now) (IsServiceExchange g.K.Sink.held g.K.Sink.has_failed
    g.N.Folder.holds g.N.Folder.writes g.N.Folder.publishes c.args.routes.now m) (IsExchange c.args.routes.now m)
    (λ s. s.gate) (λ old left moment before after ended new one. one.exchanged) _ _ _ _ _ _ _ _ _ c.serve.result c.serve.ensures.ended)

pub returns-clause-handled : goal.returns-clause-handled
returns-clause-handled g c =
    let m = g.T.Tables.meaning in
    let listener = c.args.listener.now in
    all_handled _ m _ _ _ _ c.args.rt.now c.args.timeout c.new-acceptor.result _ _ (λ a. a.listener.now ≡ listener)
    (comes_there (λ a. a.listener.now) listener g.L.ClientListener.accepts g.L.Client.Connection.clones) (stays_there (λ a. a.listener.now) listener) _ _ _
    c.serve.result c.new-acceptor.ensures
    (all_served _ _ (MayRead c.args.routes.now) (IsServiceExchange g.K.Sink.held g.K.Sink.has_failed
    g.N.Folder.holds g.N.Folder.writes g.N.Folder.publishes c.args.routes.now m) (IsExchange c.args.routes.now m)
    (λ s. s.gate) (λ old left moment before after ended new one. one.exchanged) _ _ _ _ _ _ _ _ _ c.serve.result c.serve.ensures.done)
    (cut_short _ _ (MayRead c.args.routes.now) (IsServiceExchange g.K.Sink.held g.K.Sink.has_failed
    g.N.Folder.holds g.N.Folder.writes g.N.Folder.publishes c.args.routes.now m) (IsExchange c.args.routes.now m)
    (λ s. s.gate) (λ old left moment before after ended new one. one.exchanged) _ _ _ _ _ _ _ _ _ c.serve.result c.serve.ensures.ended)

pub returns-clause-served : goal.returns-clause-served
returns-clause-served g c =
    let listener = c.args.listener.now in
    from_anywhere _ _ _ (IsServiceExchange g.K.Sink.held g.K.Sink.has_failed
    g.N.Folder.holds g.N.Folder.writes g.N.Folder.publishes c.args.routes.now g.T.Tables.meaning) _ _
    c.args.rt.now c.args.timeout c.new-acceptor.result _ _ (λ a. a.listener.now ≡ listener)
    (comes_there (λ a. a.listener.now) listener g.L.ClientListener.accepts g.L.Client.Connection.clones) (stays_there (λ a. a.listener.now) listener) _ _ _
    c.serve.result c.new-acceptor.ensures c.serve.ensures.done c.serve.ensures.ended
