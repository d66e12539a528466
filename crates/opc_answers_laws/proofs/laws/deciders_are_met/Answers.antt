use Rattle.opc_answers_laws.proofs.Asking.{deciders_met, command_deciders_met, line_deciders_met}
use Rattle.opc_answers_laws.proofs.laws.deciders_are_met.Goals as goal

pub returns : goal.returns
returns c = record { questions = deciders_met; commands = command_deciders_met; lines = line_deciders_met }
