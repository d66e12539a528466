use Rattle.std.proofs.Common.{◌≡◌, ◌++◌, drop}
use Rattle.opc_decide_searches.specs.Found.{users_as_candidates}
use Rattle.opc_decide_searches.proofs.finding.user_candidates.Given as goal

abbrev pub invariant-loop-member : goal.invariant-loop-member
invariant-loop-member l =
    l.list.items ++ users_as_candidates (drop l.member-index l.members) ≡ users_as_candidates l.members
