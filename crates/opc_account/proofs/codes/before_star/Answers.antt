use Rattle.opc_account.proofs.Stars.{stripped}
use Rattle.opc_account.proofs.codes.before_star.Goals as goal

pub returns : goal.returns
returns c = stripped c.args.wanted.now c.strip_suffix.result c.strip_suffix.ensures.cases
