use Rattle.opc_machine_laws.proofs.Columns.{lines_say, rules_say}
use Rattle.opc_machine_laws.proofs.spellings.lines_say_their_fields.Goals as goal

pub returns : goal.returns
returns c = record { lines = lines_say; rules = rules_say }
