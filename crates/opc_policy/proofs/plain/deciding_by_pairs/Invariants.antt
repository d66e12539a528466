use Rattle.std.proofs.Common.{take}
use Rattle.std.specs.Option.{option_copied}
use Rattle.opc_policy_members.specs.Profiles.{of_class}
use Rattle.opc_policy.specs.Deciding.{IsDeciding}
use Rattle.opc_policy.proofs.plain.deciding_by_pairs.Given as goal

abbrev pub invariant-loop-profile : goal.invariant-loop-profile
invariant-loop-profile l = IsDeciding (of_class l.class (take l.profile-index l.profiles)) l.resource (option_copied l.best)
