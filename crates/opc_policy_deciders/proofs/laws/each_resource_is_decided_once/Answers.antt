use Rattle.opc_policy_deciders.proofs.Standing.{decided_where_found, each_has_one_place, found_where_decided}
use Rattle.opc_policy_deciders.proofs.laws.each_resource_is_decided_once.Goals as goal

pub returns : goal.returns
returns c = record { place = each_has_one_place; found = found_where_decided; decided = decided_where_found }
