-- The answer about the first bytes of a file is that about all of it.
use Rattle.std.proofs.Common.{◌≡◌, ◌≤◌, ◌<◌, ◌+◌, ℕ, List, Option, Some, None, IfSome, inl, inr, length, take, ap, subst, sym, ◌∙◌, refl, arith}
use Rattle.std.specs.Prelude.{IfErr, IfOk, Result, Ok, Err}
use Rattle.std.specs.Io.KnownBytes.{Appends}
use Rattle.std.proofs.lemmas.List.{length-take, take_all}
use Rattle.opc_policy_members.specs.declared.row.Row.{Row}
use Rattle.opc_check.specs.Checked.{Finding, IsFound, taken, told}
use Rattle.opc_check.specs.declared.checked.Checked.{Checked}
use Rattle.opc_check.specs.declared.checked.Checked.TheVariants as checked
use Rattle.opc_cli_failures.specs.declared.failure.Failure.{Failure}
use Rattle.opc_cli_failures.specs.declared.status.Status.{Status}
use Rattle.opc_cli_failures.specs.declared.status.Status.TheVariants.{BadInput}
use Rattle.opc_cli_failures.specs.Statuses.{IsFailure}
use Rattle.opc_check.specs.declared.form.Form.{Form}
use Rattle.opc_check.specs.Unread.{policy_limit}
use Rattle.opc_cli_questions.specs.PolicyFiles.{AreLeft}
use Rattle.opc_cli_questions.specs.Checks.{AnswersFound, AreFirst, IsAnswer, IsAnswered, IsWritten, answer_of, noted}
use Rattle.opc_cli_questions.specs.Printed.{PrintedAnswer, answered}

longer : (n : ℕ) (all : List ℕ) → n < length (take (n + 1) all) → n < length all
longer n all h = omega (arith, h, length-take (n + 1) all)

whole : (n : ℕ) (all : List ℕ) → length (take (n + 1) all) ≤ n → take (n + 1) all ≡ all
whole n all h = take_all (n + 1) all (omega (arith, h, length-take (n + 1) all))

module _ (form : Form) (allowed : Option (List ℕ)) (answer : PrintedAnswer) (bytes all : List ℕ) (are : bytes ≡ take (policy_limit + 1) all) where
  same : length bytes ≤ policy_limit → bytes ≡ all
  same fits = are ∙ whole policy_limit all (subst (λ b. length b ≤ policy_limit) are fits)

  of_all : IsAnswer form allowed bytes answer → IsAnswer form allowed all answer
  of_all (inl long) = inl (longer policy_limit all (subst (λ b. policy_limit < length b) are long.0), long.1)
  of_all (inr (inl other)) = subst (λ b. IsAnswer form allowed b answer) (same other.0) (inr (inl other))
  of_all (inr (inr text)) = subst (λ b. IsAnswer form allowed b answer) (same text.0) (inr (inr text))

pub answers_all : (form : Form) (allowed : Option (List ℕ)) (answer : PrintedAnswer) (left : Option (List ℕ)) (bytes : List ℕ)
    → AreFirst left bytes → IsAnswer form allowed bytes answer
    → (all : List ℕ) × AreLeft left all × IsAnswer form allowed all answer
answers_all form allowed answer None bytes are is = (bytes, tt, is)
answers_all form allowed answer (Some all) bytes are is = (all, refl, of_all form allowed answer bytes all are is)

pub opened_is_first : (held left : Option (List ℕ)) (bytes : List ℕ) → IfSome held (λ all. left ≡ Some all)
    → AreFirst left bytes → AreFirst held bytes
opened_is_first None left bytes has are = tt
opened_is_first (Some all) left bytes has are = subst (λ l. AreFirst l bytes) has are

-- what is answered about what was found
pub found_answer : (form : Form) (allowed : Option (List ℕ)) (text : List ℕ) (finding : Finding) (found : Checked) (answer : PrintedAnswer)
    → IsFound finding found → AnswersFound form allowed text found answer → answer ≡ answer_of form allowed text finding
found_answer form allowed text (told lines) (checked.Bad made) answer is answers =
    answers ∙ ap (λ (t : List ℕ). answered t BadInput) is
found_answer form allowed text (taken rows policy) (checked.Taken given its) answer is answers =
    answers ∙ ap (λ (rs : List Row). noted form allowed (Some text) rs) is.0
found_answer form allowed text (told lines) (checked.Taken given its) answer is answers = absurd is
found_answer form allowed text (taken rows policy) (checked.Bad made) answer is answers = absurd is

-- and when it is written
module _ {W : Type 0} (contents : W → Option (List ℕ)) (before written : W) (form : Form) (allowed : Option (List ℕ)) (text : List ℕ) (status : Status) where
  is_written : (is : PrintedAnswer → Type 0) (end : Result Status Failure) → is (answered text status)
      → IfOk end (λ (s : Status). Appends (contents before) (contents written) text) → IfOk end (λ (s : Status). s ≡ status)
      → IfErr end (λ (f : Failure). IsFailure f.fault) → IsWritten contents before written is end
  is_written is (Ok s) answer appends same failed = (text, subst (λ (x : Status). is (answered text x)) (sym same) answer, appends)
  is_written is (Err failure) answer appends same failed = failed

  pub is_answered : (left : Option (List ℕ)) (bytes : List ℕ) (end : Result Status Failure) → AreFirst left bytes
      → IsAnswer form allowed bytes (answered text status)
      → IfOk end (λ (s : Status). Appends (contents before) (contents written) text) → IfOk end (λ (s : Status). s ≡ status)
      → IfErr end (λ (f : Failure). IsFailure f.fault) → IsAnswered contents before written form allowed left end
  is_answered left bytes end are is appends same failed =
      let all = answers_all form allowed (answered text status) left bytes are is in
      inr (all.0, all.1, is_written (IsAnswer form allowed all.0) end all.2 appends same failed)
