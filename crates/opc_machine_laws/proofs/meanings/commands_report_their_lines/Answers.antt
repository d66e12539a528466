use Rattle.opc_machine_laws.proofs.LinesReported.{report_their_lines}
use Rattle.opc_machine_laws.proofs.meanings.commands_report_their_lines.Goals as goal

pub returns : goal.returns
returns c = report_their_lines
