-- What the answer to one question says is what `explain` prints.
use Rattle.std.proofs.Common.{◌≡◌, ◌↔◌, ◌∙◌, ℕ, Bool, true, List, Option, Some, None, Result, Ok, Err, refl, ap, sym, codes}
use Rattle.std.specs.Prelude.{option_and_then, option_map}
use Rattle.std.specs.Result.{result_ok}
use Rattle.serde_json.specs.Data.{boolean}
use Rattle.serde_json.specs.Find.{get}
use Rattle.serde_json.specs.Read.{read}
use Rattle.serde_json.proofs.OnLiterals.{serde_json_on_literals}
use Rattle.opc_terms.specs.declared.fault.Fault.{Fault}
use Rattle.opc_policy_members.specs.declared.row.Row.{Row}
use Rattle.opc_policy_folder.specs.StateNames.{digits_of}
use Rattle.opc_state.specs.State.{State, empty}
use Rattle.opc_machine.specs.Bootstrap.{bootstrapped}
use Rattle.opc_decide_requests.specs.declared.question.AccessQuestion.{AccessQuestion}
use Rattle.opc_decide_answers.specs.declared.decision.AccessDecision.{AccessDecision}
use Rattle.opc_decide_answers.specs.DecisionValues.{decision_value}
use Rattle.opc_decide_answers.specs.Decisions.{NamedState, decision_of, permits}
use Rattle.opc_decide_answers.proofs.Allowed.{permits_what_is_allowed}
use Rattle.opc_decide_present.specs.declared.decider.DecidedAnswer.{DecidedAnswer}
use Rattle.opc_decide_present.specs.declared.kind.QuestionKind.{QuestionKind}
use Rattle.opc_decide_present.specs.declared.kind.QuestionKind.TheVariants as question
use Rattle.opc_decide_files.specs.Answering.{IsAnswer, SaysTrue, SaysWhatIsAllowed, answer_to, question_in}
use Rattle.opc_decide_files.specs.DecidingFiles.{named, policy_in, policy_of_rows, rows_in}

said : (b : Bool) → Some (boolean b) ≡ Some (boolean true) → b ≡ true
said b e = cc

decision_in : (name : List ℕ) (d : AccessDecision) → get (codes "decision") (decision_value name d) ≡ Some (boolean (permits d))
unfolding serde_json_on_literals
decision_in name d = refl

-- a response with a decision says whether that permits
says_so : (response name : List ℕ) (d : AccessDecision) → read response ≡ Some (decision_value name d)
    → SaysTrue response ↔ (permits d ≡ true)
says_so response name d reads = rw (reads, decision_in name d) (said (permits d), ap (λ b. Some (boolean b)))

abbrev state_in : State → Option NamedState → State
state_in s None = s
state_in s (Some p) = p.state

made : (name : List ℕ) (found : Result State Fault) (p : NamedState) → option_map (named name) (result_ok found) ≡ Some p
    → found ≡ Ok p.state
made name (Ok s) p e = ap (λ o. Ok (state_in s o)) e
made name (Err fault) p e = cc

-- the rows of a file make its policy
loaded_so : (file : List ℕ) (rows : List Row) (p : NamedState) → policy_in file ≡ Some p → rows_in file ≡ Some rows
    → bootstrapped rows empty ≡ Ok p.state
loaded_so file rows p loaded e =
    made (digits_of file) (bootstrapped rows empty) p (ap (option_and_then (policy_of_rows (digits_of file))) (sym e) ∙ loaded)

both_ways : {A B C : Type 0} → A ↔ B → B ↔ C → A ↔ C
both_ways f g = (λ a. g.0 (f.0 a), λ c. f.1 (g.1 c))

allowed_so : (file body response : List ℕ) (p : NamedState) → policy_in file ≡ Some p
    → ((asked : AccessQuestion) → question_in body ≡ Some asked → read response ≡ Some (decision_value p.name (decision_of p.state asked)))
    → SaysWhatIsAllowed file body response
allowed_so file body response p loaded reads rows q e asks = both_ways
    (says_so response p.name (decision_of p.state asks.asked) (reads asks.asked asks.reads))
    (permits_what_is_allowed rows p.state asks.asked q (loaded_so file rows p loaded e) asks.asks)

pub is_answer : (file : List ℕ) (p : NamedState) (kind : QuestionKind) (body : List ℕ) (answer : DecidedAnswer)
    → policy_in file ≡ Some p → answer ≡ answer_to p kind body
    → (kind ≡ question.Evaluation → (asked : AccessQuestion) → question_in body ≡ Some asked
    → read answer.body ≡ Some (decision_value p.name (decision_of p.state asked)))
    → IsAnswer file kind body answer
is_answer file p kind body answer loaded is reads = record {
  policy = p;
  loaded = loaded;
  is = is;
  says = λ one. allowed_so file body answer.body p loaded (reads one);
}
