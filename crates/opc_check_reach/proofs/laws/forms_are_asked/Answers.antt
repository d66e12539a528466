use Rattle.opc_check_reach.proofs.Formed.{forms_asked}
use Rattle.opc_check_reach.proofs.laws.forms_are_asked.Goals as goal

pub returns : goal.returns
returns c = forms_asked
