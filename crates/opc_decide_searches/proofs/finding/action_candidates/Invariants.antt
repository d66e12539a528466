use Rattle.std.proofs.Common.{◌≡◌, ◌++◌, drop}
use Rattle.opc_decide_searches.specs.Found.{action_candidates}
use Rattle.opc_decide_searches.proofs.finding.action_candidates.Given as goal

abbrev pub invariant-loop-action : goal.invariant-loop-action
invariant-loop-action l =
    l.list.items ++ action_candidates (drop l.action-index l.actions) ≡ action_candidates l.actions
