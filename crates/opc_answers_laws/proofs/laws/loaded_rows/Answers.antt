use Rattle.opc_answers_laws.proofs.Whole.{are_all_shown}
use Rattle.opc_answers_laws.proofs.laws.loaded_rows.Goals as goal

pub returns : goal.returns
returns c = are_all_shown
