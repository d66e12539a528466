use Rattle.std.proofs.Common.{map}
use Rattle.std.specs.Map.Iter.{deref}
use Rattle.std.specs.Option.{option_copied}
use Rattle.opc_policy.specs.Examined.{is_chosen}
use Rattle.opc_policy.proofs.FirstCovering.{Unfound}
use Rattle.opc_policy.proofs.policy_source.first_chosen.Given as goal

abbrev pub invariant-loop-profile : goal.invariant-loop-profile
invariant-loop-profile l = Unfound (is_chosen l.class (option_copied l.head)) l.resource (map deref l.yielded) l.rows
