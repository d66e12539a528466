-- Answers have no floats.
use Rattle.std.proofs.Common.{◌≡◌, ℕ, Bool, true, false, List, [], ◌∷◌, Option, Some, None, Result, Ok, Err, refl}
use Rattle.std.specs.Prelude.{if◌then◌else◌}
use Rattle.serde_json.specs.Data.{Data}
use Rattle.serde_json.specs.View.{items_of}
use Rattle.serde_json.specs.Written.{has_float, items_have_float}
use Rattle.opc_answers.specs.Json.{text_or_null}
use Rattle.opc_decide_requests.specs.declared.question.AccessQuestion.{AccessQuestion}
use Rattle.opc_decide_requests.specs.Evaluations.{ends_with}
use Rattle.opc_decide_requests.specs.Requests.{element_question}
use Rattle.opc_decide_requests.specs.declared.evaluations.EvaluationSemantics.{EvaluationSemantics}
use Rattle.opc_decide_requests.specs.declared.fault.RequestFault.{RequestFault}
use Rattle.opc_decide_answers.specs.declared.decision.AccessDecision.{AccessDecision}
use Rattle.opc_decide_answers.specs.DecisionValues.{decision_value}
use Rattle.opc_decide_answers.specs.Decisions.{NamedState, decision_of, decision_rule}
use Rattle.opc_decide_answers.specs.Evaluated.{answers, element_permits, element_value, evaluations_value, going_on}

or_null : (text : Option (List ℕ)) → has_float (text_or_null text) ≡ false
or_null None = refl
or_null (Some text) = refl

pub decision_so : (policy : List ℕ) (d : AccessDecision) → has_float (decision_value policy d) ≡ false
decision_so policy d = rw (or_null (decision_rule d)) refl

element_so : (p : NamedState) (r : Result AccessQuestion RequestFault) → has_float (element_value p r) ≡ false
element_so p (Ok asked) = decision_so p.name (decision_of p.state asked)
element_so p (Err why) = refl

going_so : (semantics : EvaluationSemantics) (b : Bool) (list : List Data) → items_have_float (items_of list) ≡ false
    → items_have_float (items_of (going_on semantics b list)) ≡ false
going_so semantics b list none = go (ends_with semantics b)
  where
    go : (c : Bool) → items_have_float (items_of (if c then [] else list)) ≡ false
    go true = refl
    go false = none

answers_so : (p : NamedState) (semantics : EvaluationSemantics) (shared : Data) (elements : List Data)
    → items_have_float (items_of (answers p semantics shared elements)) ≡ false
answers_so p semantics shared [] = refl
answers_so p semantics shared (element ∷ more) = rw (
  element_so p (element_question element shared),
  going_so semantics (element_permits p (element_question element shared)) (answers p semantics shared more)
      (answers_so p semantics shared more),
) refl

pub evaluations_so : (p : NamedState) (semantics : EvaluationSemantics) (shared : Data) (elements : List Data)
    → has_float (evaluations_value (answers p semantics shared elements)) ≡ false
evaluations_so p semantics shared elements = rw (answers_so p semantics shared elements) refl
