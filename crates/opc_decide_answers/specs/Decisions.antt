-- What a policy decides about a question: what `explain` says.
use Rattle.std.specs.Prelude.{ℕ, Bool, ◌&&◌, false, List, Option, None, Result, Ok, Err, codes}
use Rattle.std.specs.Option.{is_none}
use Rattle.opc_terms.specs.declared.fault.Fault.{Fault}
use Rattle.opc_terms.specs.declared.fault.Fault.TheVariants.{Missing}
use Rattle.opc_state.specs.State.{State}
use Rattle.opc_answers.specs.declared.why.Explanation.{Explanation}
use Rattle.opc_answers.specs.Json.{rule_words}
use Rattle.opc_answers.specs.Texts.{allows, verdict_word}
use Rattle.opc_answers.specs.Why.{ruling_in, why_in}
use Rattle.opc_decide_requests.specs.declared.question.AccessQuestion.{AccessQuestion}
use Rattle.opc_decide_answers.specs.declared.decision.AccessDecision.{AccessDecision}
use Rattle.opc_decide_answers.specs.declared.decision.AccessDecision.TheVariants.{NoConsole, NoUser, Said}

-- what the rows of a policy make, and the digits by which answers name it
pub record NamedState : Type 0 where
  pub state : State
  pub name : List ℕ

-- The verdict and its rule, as `who` says them. The only faults of a question that is read are that the policy has no
-- such user, or no such console.
abbrev pub said : Explanation → AccessDecision
said why = Said (ruling_in why.verdict why.rule) why.instead

abbrev pub unknown : Fault → AccessDecision
unknown (Missing id) = NoUser
unknown other = NoConsole

abbrev pub decision_by : Result Explanation Fault → AccessDecision
decision_by (Ok why) = said why
decision_by (Err fault) = unknown fault

abbrev pub decision_of : State → AccessQuestion → AccessDecision
decision_of s asked = decision_by (why_in s false asked.wanted asked.actor asked.console)

-- Access is permitted if it is allowed, be it by a warning alone, and nothing is said in the place of that.
abbrev pub permits : AccessDecision → Bool
permits (Said ruling instead) = is_none instead && allows ruling
permits NoUser = false
permits NoConsole = false

abbrev pub decision_word : AccessDecision → List ℕ
decision_word (Said ruling instead) = verdict_word ruling instead
decision_word NoUser = codes "NOUSER"
decision_word NoConsole = codes "NOCONSOLE"

abbrev pub decision_rule : AccessDecision → Option (List ℕ)
decision_rule (Said ruling instead) = rule_words ruling instead
decision_rule NoUser = None
decision_rule NoConsole = None
