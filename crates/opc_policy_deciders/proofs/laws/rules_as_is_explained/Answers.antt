use Rattle.opc_policy_deciders.proofs.Explained.{rules_as_explained, undecided_as_explained}
use Rattle.opc_policy_deciders.proofs.laws.rules_as_is_explained.Goals as goal

pub returns : goal.returns
returns c = record { profile = rules_as_explained; none = undecided_as_explained }
