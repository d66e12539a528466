use Rattle.opc_machine_laws.proofs.Numbering.{board_reported, line_reported}
use Rattle.opc_machine_laws.proofs.laws.faults_are_distinct.Goals as goal

pub returns : goal.returns
returns c = record { board = board_reported; line = line_reported }
