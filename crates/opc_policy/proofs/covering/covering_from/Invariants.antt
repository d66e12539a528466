use Rattle.std.proofs.Common.{◌≡◌, filter, find, length}
use Rattle.opc_policy.specs.Explained.{is_covering_from}
use Rattle.opc_policy_members.specs.Profiles.{is_of_from}
use Rattle.opc_policy.proofs.covering.covering_from.Given as goal

abbrev pub invariant-loop-profile : goal.invariant-loop-profile
invariant-loop-profile l =
    find (is_covering_from l.class l.resource l.from) l.profiles ≡ find (is_covering_from l.class l.resource l.fn.start) l.profiles

abbrev pub decreases-loop-profile : goal.decreases-loop-profile
decreases-loop-profile l = length (filter (is_of_from l.class l.from) l.profiles)
