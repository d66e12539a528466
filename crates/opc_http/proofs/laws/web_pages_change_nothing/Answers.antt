use Rattle.opc_http.proofs.Strictness.{web_pages_change_nothing}
use Rattle.opc_http.proofs.laws.web_pages_change_nothing.Goals as goal

pub returns : goal.returns
returns g c = web_pages_change_nothing g.T.Tables.meaning g.K.Sink.held
