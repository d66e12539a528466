use Rattle.opc_machine_laws.proofs.DenyingAll.{rules_named}
use Rattle.opc_machine_laws.proofs.laws.refusals_of_authority_name_their_rule.Goals as goal

pub returns : goal.returns
returns c = rules_named
