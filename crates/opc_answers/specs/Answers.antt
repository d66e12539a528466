-- The answer of the rows of a policy to a question.
use Rattle.std.specs.Prelude.{ℕ, Bool, List, Option, Some, None, Result, Ok, Err}
use Rattle.opc_terms.specs.declared.fault.Fault.{Fault}
use Rattle.opc_policy_members.specs.declared.row.Row.{Row}
use Rattle.opc_state.specs.State.{State, empty}
use Rattle.opc_machine.specs.Bootstrap.{bootstrapped}
use Rattle.opc_answers.specs.declared.answer.PolicyAnswer.{PolicyAnswer}
use Rattle.opc_answers.specs.declared.answer.PolicyAnswer.TheVariants as answer
use Rattle.opc_answers.specs.declared.question.Asks.{Asks}
use Rattle.opc_answers.specs.declared.question.Asks.TheVariants as asks
use Rattle.opc_answers.specs.declared.question.Question.{Question}
use Rattle.opc_answers.specs.declared.wanted.Wanted.{Wanted}
use Rattle.opc_answers.specs.declared.who.Who.{Who}
use Rattle.opc_answers.specs.declared.why.Explanation.{Explanation}
use Rattle.opc_answers.specs.Questions.{wanted_of}
use Rattle.opc_answers.specs.Who.{HasDecider, who_in}
use Rattle.opc_answers.specs.Why.{why_in}

abbrev pub why_answer : Result Explanation Fault → Result PolicyAnswer Fault
why_answer (Ok why) = Ok (answer.Why why)
why_answer (Err fault) = Err fault

abbrev pub who_answer : (allowed : Bool) → Result Who Fault → Result PolicyAnswer Fault
who_answer allowed (Ok who) = Ok (answer.Who who allowed)
who_answer allowed (Err fault) = Err fault

-- what a state answers about what is wanted, at a console if one is named
abbrev pub answer_in : State → Wanted → (console : Option (List ℕ)) → Asks → Result PolicyAnswer Fault
answer_in s w console (asks.Why actor levels) = why_answer (why_in s levels w actor console)
answer_in s w console (asks.Who allowed) = who_answer allowed (who_in s w console)

abbrev pub answer_by : Result State Fault → Wanted → (console : Option (List ℕ)) → Asks → Result PolicyAnswer Fault
answer_by (Ok s) w console asks = answer_in s w console asks
answer_by (Err fault) w console asks = Err fault

-- What is wanted is answered by what rows make, as the first policy of new tables; what needs nothing without them.
abbrev pub answer_about : Question → Result State Fault → Result (Option Wanted) Fault → Result PolicyAnswer Fault
answer_about q made (Ok None) = Ok answer.Nothing
answer_about q made (Ok (Some w)) = answer_by made w q.console q.asks
answer_about q made (Err fault) = Err fault

abbrev pub answer_made : Question → Result State Fault → Result PolicyAnswer Fault
answer_made q made = answer_about q made (wanted_of q.about q.console)

-- what the rows of a policy answer to a question
abbrev pub answer_of : Question → List Row → Result PolicyAnswer Fault
answer_of q rows = answer_made q (bootstrapped rows empty)

-- the lines of an answer can be made
abbrev pub CanBePrinted : PolicyAnswer → Type 0
CanBePrinted (answer.Who who allowed) = HasDecider who
CanBePrinted other = Unit {0}
