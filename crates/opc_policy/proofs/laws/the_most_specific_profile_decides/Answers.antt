use Rattle.opc_policy.proofs.MostSpecific.{deciding_is_most_specific, one_is_deciding}
use Rattle.opc_policy.proofs.laws.the_most_specific_profile_decides.Goals as goal

pub returns : goal.returns
returns c = record { most_specific = deciding_is_most_specific; only = one_is_deciding }
