use Rattle.std.proofs.Common.{◌≡◌, ◌++◌, drop, map}
use Rattle.serde_json.specs.View.{view}
use Rattle.opc_decide_searches.specs.Candidates.{candidate_value}
use Rattle.opc_decide_searches.proofs.page.values_of.Given as goal

abbrev pub invariant-loop-candidate : goal.invariant-loop-candidate
invariant-loop-candidate l =
    map view l.items.items ++ map candidate_value (drop l.candidate-index l.shown) ≡ map candidate_value l.shown
