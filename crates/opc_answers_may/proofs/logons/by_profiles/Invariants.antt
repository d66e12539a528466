use Rattle.std.proofs.Common.{◌≡◌, map}
use Rattle.std.specs.Map.Iter.{deref}
use Rattle.opc_names.specs.declared.class.Class.TheVariants.{Console}
use Rattle.opc_policy_members.specs.Profiles.{of_class}
use Rattle.opc_answers_may.specs.Logons.{basis_by}
use Rattle.opc_answers_may.proofs.logons.by_profiles.Given as goal

abbrev pub invariant-loop-profile : goal.invariant-loop-profile
invariant-loop-profile l = l.list.items ≡ map basis_by (of_class Console (map deref l.yielded))
