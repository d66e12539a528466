use Rattle.opc_machine_laws.proofs.Reporting.{lines_read, rules_read, words_read}
use Rattle.opc_machine_laws.proofs.meanings.rules_and_lines_read_so.Goals as goal

pub returns : goal.returns
returns c = record { rules = rules_read; words = words_read; lines = lines_read }
