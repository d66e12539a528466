use Rattle.std.proofs.Common.{◌∙◌, ap, refl, sym}
use Rattle.std.specs.Prelude.{is_some}
use Rattle.opc_http_serve.proofs.Held.{faulty, served}
use Rattle.opc_http_serve.proofs.Logged.{log_left, logged_has}
use Rattle.opc_http_serve.proofs.service.ServiceExchanges.serve_one.Goals as goal

pub returns-clause-exchanged : goal.returns-clause-exchanged
returns-clause-exchanged g c =
    let made = c.exchange_told-exchanged.ensures in
    let left = log_left g.L.Sink.held g.L.Sink.has_failed g.N.Folder.holds g.N.Folder.writes g.N.Folder.publishes _
    g.T.Tables.meaning _ _ _ _ _ _ _ _ _ _ made.trailed in
    record {
      entry = c.exchange_told-exchanged.result.entry;
      followed = _;
      exchanged = record {
        served = served _ _ _ _ _ _ _ _ _ _ made.served;
        fault = faulty _ _ _ _ _ _ _ _ _ _ made.fault;
        sure = made.sure;
      };
      trailed = made.trailed;
      folder = refl;
      logged = logged_has g.L.Sink.held g.L.Sink.has_failed _ c.exchange_told-exchanged.result.entry _ _ _ left made.told
          (c.write_entry.ensures (made.entry ∙ sym (ap is_some left)));
    }
