use Rattle.opc_machine_laws.proofs.Refusing.{bad_line}
use Rattle.opc_machine_laws.proofs.laws.bad_lines_are_answered.Goals as goal

pub returns : goal.returns
returns c = bad_line
