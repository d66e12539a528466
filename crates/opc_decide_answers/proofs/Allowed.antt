-- What is permitted is what `explain` says is ALLOWED.
use Rattle.std.proofs.Common.{◌≡◌, ◌<◌, ◌↔◌, ℕ, true, false, List, Option, Some, None, Result, Ok, Err, refl, ap, codes, slice_index, arith}
use Rattle.opc_terms.specs.declared.fault.Fault.{Fault}
use Rattle.opc_terms.specs.declared.fault.Fault.TheVariants.{Missing}
use Rattle.opc_terms.specs.declared.rule.Rule.{Rule}
use Rattle.opc_policy_members.specs.declared.row.Row.{Row}
use Rattle.opc_state.specs.State.{State, empty}
use Rattle.opc_machine.specs.Bootstrap.{bootstrapped}
use Rattle.opc_policy.specs.declared.verdict.Verdict.{Verdict}
use Rattle.opc_policy.specs.declared.verdict.Verdict.TheVariants.{Allowed, Denied, Undecided}
use Rattle.opc_answers.specs.declared.logons.Instead.{Instead}
use Rattle.opc_answers.specs.declared.logons.Instead.TheVariants.{Hidden, NoDigest, NoLogon}
use Rattle.opc_answers.specs.declared.why.Explanation.{Explanation}
use Rattle.opc_answers.specs.declared.question.Question.{Question}
use Rattle.opc_answers.specs.Answers.{answer_of, why_answer}
use Rattle.opc_answers.specs.Why.{ruling_in, said_verdict, why_in}
use Rattle.opc_decide_requests.specs.AccessQuestions.{AsksFor}
use Rattle.opc_decide_requests.specs.declared.question.AccessQuestion.{AccessQuestion}
use Rattle.opc_decide_answers.specs.declared.decision.AccessDecision.TheVariants.{Said}
use Rattle.opc_decide_answers.specs.DecisionLaws.{IsSaid, PermitsWhatIsAllowed}
use Rattle.opc_decide_answers.specs.Decisions.{decision_by, permits, unknown}

-- A question that is read is answered by an explanation.
answers_why : (rows : List Row) (s : State) (asked : AccessQuestion) (q : Question)
    → bootstrapped rows empty ≡ Ok s → AsksFor asked q
    → answer_of q rows ≡ why_answer (why_in s false asked.wanted asked.actor asked.console)
answers_why rows s asked q loaded asks = rw (asks.wanted, loaded, asks.asks, asks.console) refl

-- a word that begins with a later letter than A
apart : (n : ℕ) → 65 < n → n ≡ 65 → ⊥
apart n later same = omega (arith, later, same)

first : (word : List ℕ) → word ≡ codes "ALLOWED" → slice_index word 0 ≡ 65
first word same = ap (λ t. slice_index t 0) same

said_so : (v : Verdict) (r : Rule) (i : Option Instead)
    → (permits (Said (ruling_in v r) i) ≡ true) ↔ (said_verdict v i ≡ codes "ALLOWED")
said_so Allowed r None = (λ h. refl, λ h. refl)
said_so Denied r None = (λ h. absurd (cc), λ h. absurd (apart 68 (omega arith) (first (codes "DENIED") h)))
said_so Undecided r None = (λ h. absurd (cc), λ h. absurd (apart 85 (omega arith) (first (codes "UNDECIDED") h)))
said_so v r (Some (NoLogon why)) = (λ h. absurd (cc), λ h. absurd (apart 78 (omega arith) (first (codes "NOLOGON") h)))
said_so v r (Some NoDigest) = (λ h. absurd (cc), λ h. absurd (apart 68 (omega arith) (first (codes "DENIED") h)))
said_so v r (Some Hidden) = (λ h. absurd (cc), λ h. absurd (apart 72 (omega arith) (first (codes "HIDDEN") h)))

unknown_so : (f : Fault) → permits (unknown f) ≡ true → ⊥
unknown_so (Missing id) h = cc
unknown_so other h = cc

by_why : (found : Result Explanation Fault) → (permits (decision_by found) ≡ true) ↔ IsSaid (codes "ALLOWED") (why_answer found)
by_why (Ok why) = said_so why.verdict why.rule why.instead
by_why (Err fault) = (λ h. unknown_so fault h, λ h. absurd h)

pub permits_what_is_allowed : PermitsWhatIsAllowed
permits_what_is_allowed rows s asked q loaded asks =
    rw (answers_why rows s asked q loaded asks) (by_why (why_in s false asked.wanted asked.actor asked.console))
