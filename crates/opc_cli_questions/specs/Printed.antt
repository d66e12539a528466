-- Answers by the rows of a policy, and how they are given.
use Rattle.std.specs.Prelude.{
  ◌≡◌,
  ◌⊎◌,
  ℕ,
  Bool,
  false,
  List,
  Option,
  Some,
  None,
  Result,
  Ok,
  Err,
  IfErr,
  IsErrAnd,
  codes,
}
use Rattle.std.specs.Borrow.{Bor}
use Rattle.std.specs.Io.KnownBytes.{Appends}
use Rattle.opc_terms.specs.declared.fault.Fault.{Fault}
use Rattle.opc_policy.specs.declared.verdict.Verdict.{Verdict}
use Rattle.opc_policy.specs.declared.verdict.Verdict.TheVariants.{Denied}
use Rattle.opc_policy_members.specs.declared.row.Row.{Row}
use Rattle.opc_check.specs.declared.form.Form.{Form}
use Rattle.opc_check.specs.declared.form.Form.TheVariants.{Json, Text}
use Rattle.opc_cli_failures.specs.declared.failure.Failure.{Failure}
use Rattle.opc_cli_failures.specs.declared.status.Status.{Status}
use Rattle.opc_cli_failures.specs.declared.status.Status.TheVariants.{Done, Refused}
use Rattle.opc_cli_failures.specs.Printing.{IsReported}
use Rattle.opc_cli_failures.specs.Statuses.{IsFailure, status_of_end}
use Rattle.opc_cli_questions.specs.PolicyFiles.{AreRead, IsUnread}

-- an answer: its text, and the status
abbrev pub PrintedAnswer : Type 0
PrintedAnswer = List ℕ × Status

abbrev pub answered : List ℕ → Status → PrintedAnswer
answered text status = (text, status)

-- anybody may do what needs nothing
abbrev pub nothing_text : Form → List ℕ
nothing_text Text = codes "NEEDS NOTHING\n"
nothing_text Json = codes "{\"needs\":\"nothing\"}\n"

abbrev pub status_of_verdict : Verdict → Status
status_of_verdict Denied = Refused
status_of_verdict verdict = Done

-- what the policy file has: the one that is named, or the input
abbrev pub left_in : (List ℕ → Option (List ℕ)) → Option (List ℕ) → Option (Bor (List ℕ)) → Option (List ℕ)
left_in holds left None = left
left_in holds left (Some path) = holds path.now

module _ {W : Type 0} (contents : W → Option (List ℕ)) (before written : W) where
  -- The text of an answer was written, with its status; if there is no answer, its fault is returned. Or there was no
  -- memory, or the output failed.
  abbrev pub IsWritten : (is_answer : Result PrintedAnswer Fault → Type 0) → Result Status Failure → Type 0
  IsWritten is_answer (Ok status) =
      (text : List ℕ) × is_answer (Ok (answered text status)) × Appends (contents before) (contents written) text
  IsWritten is_answer (Err failure) =
      IsFailure failure.fault ⊎ (is_answer (Err failure.fault) × (written ≡ before))

  -- No rows were read and nothing was written, or the rows that the policy file had answer.
  abbrev pub IsAnsweredBy : (answers : List Row → Result PrintedAnswer Fault → Type 0) → Option (List ℕ)
      → Result Status Failure → Type 0
  IsAnsweredBy answers left end =
      (IsErrAnd end (λ failure. IsUnread left failure.fault) × (written ≡ before))
      ⊎ ((rows : List Row) × AreRead left rows × IsWritten (answers rows) end)

-- The answer was given, and the status returned; a fault is printed, unless a write of it failed.
pub record IsReportedBy {W K : Type 0} (contents : W → Option (List ℕ)) (held : K → Option (List ℕ))
    (has_failed : K → Bool) (before written : W) (quiet reported : K)
    (answers : List Row → Result PrintedAnswer Fault → Type 0) (left : Option (List ℕ)) (status : Status) : Type 0 where
  pub end : Result Status Failure
  pub answered : IsAnsweredBy contents before written answers left end
  pub status_is : status ≡ status_of_end end
  pub printed : IfErr end (λ failure. has_failed reported ≡ false
      → IsReported failure.fault (held quiet) (held reported))
