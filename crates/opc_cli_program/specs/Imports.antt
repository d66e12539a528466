-- What `import` does with a policy file on its input, and what `export` writes.
use Rattle.std.specs.Prelude.{
  ◌≡◌,
  ◌≢◌,
  ◌⊎◌,
  ℕ,
  Bool,
  true,
  List,
  Option,
  Some,
  None,
  Result,
  Ok,
  Err,
  IfErr,
  IfOk,
  IsErr,
  IsErrAnd,
  MatchResult,
  OnErr,
  OnOk,
  if◌then◌else◌,
  is_err,
}
use Rattle.std.specs.Io.KnownBytes.{Appends}
use Rattle.std.specs.List.{flat_map}
use Rattle.opc_terms.specs.declared.fault.Fault.TheVariants.{NoMemory, Store}
use Rattle.opc_policy_members.specs.declared.row.Row.{Row}
use Rattle.opc_board.specs.declared.line.Line.{Line}
use Rattle.opc_state.specs.Meaning.{Meaning}
use Rattle.opc_state.specs.State.{State}
use Rattle.opc_machine.specs.declared.request.Answer.{Answer}
use Rattle.opc_machine.specs.declared.request.Answer.TheVariants as answer
use Rattle.opc_machine.specs.Bootstrap.{bootstrapped}
use Rattle.opc_machine.specs.Inputs.{Input, Import as ImportOf}
use Rattle.opc_gate.specs.Handling.{IsHandled, LeavesAsBefore}
use Rattle.opc_gate.specs.RowEdits.{HaveNothingNew, IsBootstrap}
use Rattle.opc_http_serve.specs.Policies.{export_of}
use Rattle.opc_cli_failures.specs.declared.status.Status.{Status}
use Rattle.opc_cli_failures.specs.declared.status.Status.TheVariants.{Done}
use Rattle.opc_cli_failures.specs.declared.failure.Failure.{Failure}
use Rattle.opc_cli_failures.specs.Statuses.{IsFailure}
use Rattle.opc_cli_tasks.specs.declared.work.Import.{Import}
use Rattle.opc_cli_questions.specs.PolicyFiles.{AreRead, IsUnread}
use Rattle.opc_cli_program.specs.Refusals.{TellsWho}
use Rattle.opc_cli_script.specs.Running.{AppendsPrefix}
use Rattle.opc_cli_script.specs.Transcripts.{ended}

-- the lines of an answer, each ended by a line feed
abbrev pub lines_text : List Line → List ℕ
lines_text lines = flat_map (λ line. ended line.text) lines

-- It succeeded, or an allocation or a device failed.
abbrev pub IsEnded : Result Status Failure → Type 0
IsEnded end = MatchResult end (λ status. status ≡ Done) (λ failure. IsFailure failure.fault)

-- A text was written, and if that failed, a prefix of it.
abbrev pub IsWritten : List ℕ → (before written : Option (List ℕ)) → Result Status Failure → Type 0
IsWritten text before written end = MatchResult end (λ _. Appends before written text)
    (λ _. AppendsPrefix before written text)

-- It failed if and only if a write did.
abbrev pub FailsAsWritten : {K : Type 0} → (K → Bool) → (before written : K) → Result Status Failure → Type 0
FailsAsWritten has_failed before written end = has_failed written ≡ (if is_err end then true else has_failed before)

-- An answer is printed: a request that is done by its lines; one that is refused prints nothing and returns its fault.
abbrev pub IsReported : {K : Type 0} → (K → Option (List ℕ)) → (K → Bool) → Answer → (before written : K)
    → Result Status Failure → Type 0
IsReported held has_failed (answer.Done lines rule) before written end =
    IsEnded end × IsWritten (lines_text lines) (held before) (held written) end
    × FailsAsWritten has_failed before written end
IsReported held has_failed (answer.Refused fault rule) before written end =
    IsErrAnd end (λ failure. failure.fault ≡ fault) × (written ≡ before)

module _ {T : Type 0} (m : Meaning T) (old new : T)
    (end : Result Status Failure) where
  -- What happens to a first policy over a state, and what a crash may leave: the state with it, as a whole, or what it
  -- might have left before.
  pub record IsTakenOver (s : State) (rows : List Row) : Type 0 where
    pub done : OnOk end (IsBootstrap m new s rows)
    pub refused : IfErr end (λ failure. failure.fault ≢ NoMemory → failure.fault ≢ Store
        → bootstrapped rows s ≡ Err failure.fault)
    pub unchanged : OnErr end (m.represents new s)
    pub crash : (left : State) → m.may_leave new left → m.may_leave old left ⊎ (bootstrapped rows s ≡ Ok left)
    pub idle : HaveNothingNew rows s → LeavesAsBefore m old new

  -- The rows were taken as a first policy, or not.
  pub record IsFirstPolicy (rows : List Row) : Type 0 where
    pub taken : m.is_sure new → (s : State) → m.represents old s → IsTakenOver s rows
    pub ends : IfOk end (λ status. status ≡ Done)

  -- What a reader had left was taken as a first policy, or not. It may be that no rows were read, and nothing was done.
  abbrev pub IsPolicyTaken : Option (List ℕ) → Type 0
  IsPolicyTaken left = (IsErrAnd end (λ failure. IsUnread left failure.fault) × (new ≡ old))
      ⊎ ((rows : List Row) × AreRead left rows × IsFirstPolicy rows)

  module _ {K : Type 0} (held : K → Option (List ℕ)) (has_failed : K → Bool) (before written : K) where
    -- Nothing was handled: an allocation or the input failed, or it is not a policy file.
    pub record IsNotBegun (left : Option (List ℕ)) : Type 0 where
      pub unread : IsErrAnd end (λ failure. IsUnread left failure.fault)
      pub same : new ≡ old
      pub silent : written ≡ before

    -- One request was handled, in one step of the access machine, and its answer printed. A refusal for want of SPECIAL
    -- names who acts there.
    pub record IsOneStep (moment : ℕ) (r : Input) : Type 0 where
      pub answer : Answer
      pub handled : m.is_sure new → (s : State) → m.represents old s
          → IsHandled m old new s moment r answer
      pub reported : IsReported held has_failed answer before written end
      pub who : m.is_sure new → (s : State) → m.represents old s
          → (next : State) × m.represents new next × IfErr end (TellsWho next r)

    -- The rows are a batch with this number at the console that is named; if none is named, they are a first policy,
    -- and nothing is printed.
    abbrev pub AreTaken : (moment batch : ℕ) → Option (List ℕ) → List Row → Type 0
    AreTaken moment batch (Some console) rows = IsOneStep moment (ImportOf console batch rows)
    AreTaken moment batch None rows = IsFirstPolicy rows × (written ≡ before)

    -- Nothing was handled, or the rows of the policy file that the input had left were taken.
    abbrev pub IsImport : Option (List ℕ) → ℕ → Import → Type 0
    IsImport left moment import = IsNotBegun left
        ⊎ ((rows : List Row) × AreRead left rows × AreTaken moment import.batch import.console rows)

    -- If the tables are sure, the policy file of their state was written. If it is not begun, nothing was printed.
    pub record IsExport : Type 0 where
      pub ends : IsEnded end
      pub text : m.is_sure new → (s : State) → m.represents old s
          → IsWritten (export_of s) (held before) (held written) end
      pub output : (IsErr end × (written ≡ before)) ⊎ FailsAsWritten has_failed before written end
