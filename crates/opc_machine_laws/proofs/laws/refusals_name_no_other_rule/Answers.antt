use Rattle.opc_machine_laws.proofs.DenyingAll.{no_other_named}
use Rattle.opc_machine_laws.proofs.laws.refusals_name_no_other_rule.Goals as goal

pub returns : goal.returns
returns c = no_other_named
