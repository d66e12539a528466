use Rattle.opc_answers_laws.proofs.Asking.{commands_ask, lines_ask}
use Rattle.opc_answers_laws.proofs.laws.questions_count.Goals as goal

pub returns : goal.returns
returns c = record { commands = commands_ask; lines = lines_ask }
