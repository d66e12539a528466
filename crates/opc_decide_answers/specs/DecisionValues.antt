-- Answers as JSON, in the words of the AuthZEN Authorization API.
use Rattle.std.specs.Prelude.{ℕ, Bool, false, List, codes}
use Rattle.serde_json.specs.Data.{Data, boolean, member, no_members, number, object, string, unsigned}
use Rattle.opc_answers.specs.Json.{text_or_null}
use Rattle.opc_decide_answers.specs.declared.decision.AccessDecision.{AccessDecision}
use Rattle.opc_decide_answers.specs.Decisions.{decision_rule, decision_word, permits}

abbrev pub with_decision : (context : Data) → Bool → Data
with_decision context decision =
    object (member (codes "context") context (member (codes "decision") (boolean decision) no_members))

-- what is decided, with its verdict, its rule and the policy
abbrev pub context_value : (policy : List ℕ) → AccessDecision → Data
context_value policy decision =
    object (member (codes "policy") (string policy)
    (member (codes "rule") (text_or_null (decision_rule decision))
    (member (codes "verdict") (string (decision_word decision)) no_members)))

abbrev pub decision_value : (policy : List ℕ) → AccessDecision → Data
decision_value policy decision = with_decision (context_value policy decision) (permits decision)

-- Nothing is permitted if a question does not read.
abbrev pub error_value : (message : List ℕ) → Data
error_value message =
    object (member (codes "message") (string message) (member (codes "status") (number (unsigned 400)) no_members))

abbrev pub fault_value : (message : List ℕ) → Data
fault_value message = with_decision (object (member (codes "error") (error_value message) no_members)) false
