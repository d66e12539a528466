use Rattle.std.proofs.Common.{◌≡◌, map}
use Rattle.std.specs.Map.Iter.{deref}
use Rattle.opc_policy_members.specs.Profiles.{of_class}
use Rattle.opc_policy.proofs.policy_source.copies_of.Given as goal

abbrev pub invariant-loop-profile : goal.invariant-loop-profile
invariant-loop-profile l = l.copies.items ≡ of_class l.class (map deref l.yielded)
