use Rattle.opc_machine_laws.proofs.Numbering.{authorities_enter}
use Rattle.opc_machine_laws.proofs.laws.authorities_enter_their_groups.Goals as goal

pub returns : goal.returns
returns c = authorities_enter
