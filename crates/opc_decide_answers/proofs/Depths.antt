-- An answer is not nested deeper than what is read.
use Rattle.std.proofs.Common.{◌≡◌, ◌≤◌, ℕ, List, Option, Some, None, arith, refl}
use Rattle.serde_json.specs.Data.{depth}
use Rattle.serde_json.specs.Read.{max_depth}
use Rattle.opc_answers.specs.Json.{text_or_null}
use Rattle.opc_decide_answers.specs.declared.decision.AccessDecision.{AccessDecision}
use Rattle.opc_decide_answers.specs.DecisionValues.{decision_value}
use Rattle.opc_decide_answers.specs.Decisions.{decision_rule}

or_null : (text : Option (List ℕ)) → depth (text_or_null text) ≡ 0
or_null None = refl
or_null (Some text) = refl

depth_so : (policy : List ℕ) (d : AccessDecision) → depth (decision_value policy d) ≡ 2
depth_so policy d = rw (or_null (decision_rule d)) refl

pub decision_shallow : (policy : List ℕ) (d : AccessDecision) → depth (decision_value policy d) ≤ max_depth
decision_shallow policy d = rw (depth_so policy d) (omega arith)
