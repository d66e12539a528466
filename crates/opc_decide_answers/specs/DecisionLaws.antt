-- What is decided is what `explain` prints.
use Rattle.std.specs.Prelude.{◌≡◌, ◌↔◌, ℕ, true, List, Result, Ok, Err, codes}
use Rattle.opc_terms.specs.declared.fault.Fault.{Fault}
use Rattle.opc_policy_members.specs.declared.row.Row.{Row}
use Rattle.opc_state.specs.State.{State, empty}
use Rattle.opc_machine.specs.Bootstrap.{bootstrapped}
use Rattle.opc_answers.specs.declared.answer.PolicyAnswer.{PolicyAnswer}
use Rattle.opc_answers.specs.declared.answer.PolicyAnswer.TheVariants as answer
use Rattle.opc_answers.specs.declared.question.Question.{Question}
use Rattle.opc_answers.specs.Answers.{answer_of}
use Rattle.opc_answers.specs.Why.{said_verdict}
use Rattle.opc_decide_requests.specs.AccessQuestions.{AsksFor}
use Rattle.opc_decide_requests.specs.declared.question.AccessQuestion.{AccessQuestion}
use Rattle.opc_decide_answers.specs.Decisions.{decision_of, permits}

-- the word with which the last line begins that `explain` prints, if it prints an explanation
abbrev pub IsSaid : List ℕ → Result PolicyAnswer Fault → Type 0
IsSaid word (Ok (answer.Why why)) = said_verdict why.verdict why.instead ≡ word
IsSaid word (Ok other) = ⊥
IsSaid word (Err fault) = ⊥

-- Over rows that make a policy, access is permitted exactly if `explain` of the same question prints ALLOWED.
abbrev pub PermitsWhatIsAllowed : Type 0
PermitsWhatIsAllowed = (rows : List Row) (s : State) (asked : AccessQuestion) (q : Question)
    → bootstrapped rows empty ≡ Ok s → AsksFor asked q
    → (permits (decision_of s asked) ≡ true) ↔ IsSaid (codes "ALLOWED") (answer_of q rows)
