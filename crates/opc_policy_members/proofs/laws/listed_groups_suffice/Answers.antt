use Rattle.opc_policy_members.proofs.ListedGroups.{listed_groups_suffice}
use Rattle.opc_policy_members.proofs.laws.listed_groups_suffice.Goals as goal

pub returns : goal.returns
returns c = listed_groups_suffice
