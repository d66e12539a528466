use Rattle.opc_cli_program.proofs.ServiceLogs.{logged}
use Rattle.opc_cli_program.proofs.ServicePolicies.{kept}
use Rattle.opc_cli_program.proofs.Services.{from_origins}
use Rattle.opc_cli_program.proofs.serve.serve_by.Goals as goal

pub returns-clause-serves : goal.returns-clause-serves
returns-clause-serves g c = λ origins same.
    let m = g.T.Tables.meaning in
    let n = g.N.Folder in
    let terms = c.args.clients.now in
    let new = c.serve_logged_on.new.service in
    let served = c.serve_logged_on.ensures.served in
    from_origins m g.K.Sink.held g.K.Sink.has_failed n.holds n.writes n.publishes c.args.service.now.gate new.gate
    c.args.service.now.trail terms c.ended.result _ c.args.routes.now origins same (record {
      served = c.serve_logged_on.result;
      handled = c.serve_logged_on.ensures.handled;
      timer = c.args.rt.now;
      last = new.trail.log;
      logged =
          logged c.args.routes.now m g.K.Sink.held g.K.Sink.has_failed n.holds n.writes n.publishes _ _ c.args.rt.now terms.timeout
          c.args.service.now new terms.count c.serve_logged_on.result served;
      kept =
          kept g.K.Sink.held g.K.Sink.has_failed n.holds n.writes n.publishes c.args.routes.now m _ _ c.args.rt.now terms.timeout
          c.args.service.now terms.count new c.serve_logged_on.result served;
      ends = c.ended.ensures;
    })
