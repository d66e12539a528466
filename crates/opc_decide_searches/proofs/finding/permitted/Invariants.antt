use Rattle.std.proofs.Common.{◌≡◌, ◌++◌, drop}
use Rattle.serde_json.specs.View.{view}
use Rattle.opc_decide_searches.specs.Found.{permitted}
use Rattle.opc_decide_searches.proofs.finding.permitted.Given as goal

abbrev pub invariant-loop-candidate : goal.invariant-loop-candidate
invariant-loop-candidate l =
    l.found.items ++ permitted l.policy (view l.body) (drop l.candidate-index l.candidates)
    ≡ permitted l.policy (view l.body) l.candidates
