use Rattle.std.proofs.Common.{◌≡◌, ◌++◌, drop, map}
use Rattle.serde_json.specs.View.{view}
use Rattle.opc_decide_answers.specs.Evaluated.{answers}
use Rattle.opc_decide_answers.proofs.evaluation.answers.Given as goal

abbrev pub invariant-loop-element : goal.invariant-loop-element
invariant-loop-element l =
    map view l.items.items ++ answers l.policy l.semantics (view l.shared) (map view (drop l.element-index l.elements))
    ≡ answers l.policy l.semantics (view l.shared) (map view l.elements)
