use Rattle.opc_machine_laws.proofs.Refusing.{missing_rights}
use Rattle.opc_machine_laws.proofs.laws.missing_rights_are_answered.Goals as goal

pub returns : goal.returns
returns c = missing_rights
