use Rattle.opc_answers_laws.proofs.Exported.{by_kind}
use Rattle.opc_answers_laws.proofs.laws.exports_go_by_kind.Goals as goal

pub returns : goal.returns
returns c = by_kind
