-- What the program does with a script on its input.
use Rattle.std.specs.Prelude.{
  ◌≡◌,
  ◌⊎◌,
  ◌+◌,
  ℕ,
  Bool,
  true,
  List,
  Option,
  Some,
  None,
  Result,
  Ok,
  Err,
  IfSome,
  IsErrAnd,
  IsUtf8,
  MatchResult,
  if◌then◌else◌,
  take,
}
use Rattle.std.specs.Borrow.{Bor}
use Rattle.opc_terms.specs.declared.fault.Fault.TheVariants as fault
use Rattle.opc_state.specs.Meaning.{Meaning}
use Rattle.opc_machine.specs.declared.request.Answer.{Answer}
use Rattle.opc_machine.specs.declared.request.Request.{Request}
use Rattle.opc_cli_failures.specs.declared.failure.Failure.{Failure}
use Rattle.opc_cli_failures.specs.declared.failure.Place.TheVariants as place
use Rattle.opc_cli_failures.specs.declared.status.Status.{Status}
use Rattle.opc_cli_failures.specs.declared.status.Status.TheVariants.{BadInput, Done}
use Rattle.opc_cli_failures.specs.Statuses.{IsErrorAt, IsInputFailure}
use Rattle.opc_cli_script.specs.declared.script.ScriptFault.{ScriptFault}
use Rattle.opc_cli_script.specs.declared.script.ScriptFault.TheVariants.{BadLine, NoMemory, Output}
use Rattle.opc_cli_script.specs.Refusals.{is_cut_by_output}
use Rattle.opc_cli_script.specs.Running.{IsAnswered, IsBadRun}
use Rattle.opc_cli_script.specs.Scripts.{script_limit}
use Rattle.opc_cli_log.specs.declared.log.RunLog.{RunLog}
use Rattle.opc_cli_program.specs.Imports.{IsPolicyTaken}
use Rattle.opc_cli_program.specs.Logging.{IsLogAt, IsRunWithLog}

-- The status for a script's run: a bad line was reported on the output.
abbrev pub IsEndOf : Result Status ScriptFault → Result Status Failure → Type 0
IsEndOf (Ok status) end = end ≡ Ok status
IsEndOf (Err (BadLine number)) end = end ≡ Ok BadInput
IsEndOf (Err NoMemory) end = IsErrAnd end (λ failure. failure.fault ≡ fault.NoMemory)
IsEndOf (Err (Output error)) end = IsErrAnd end (IsErrorAt place.Output error)

-- what is read from what an input had left, if that is known: at most one byte past the limit
abbrev pub AreScriptBytes : Option (List ℕ) → List ℕ → Type 0
AreScriptBytes left bytes = IfSome left (λ all. bytes ≡ take (script_limit + 1) all)

-- In these, `told` is what is more known of the requests that were handled, and of their answers.
module _ {T : Type 0} (m : Meaning T) (told : (old new : T) → List (ℕ × Request) → List Answer → Type 0) where
  -- The bytes are run as a script if they are UTF-8. If they are not, that is reported as bad line 0.
  abbrev pub IsRunOfBytes : (old new : T) → (script : List ℕ) → (before written : Option (List ℕ))
      → Result Status ScriptFault → Type 0
  IsRunOfBytes old new script before written ran =
      (IsUtf8 script × IsAnswered m told old new script before written ran)
      ⊎ ((IsUtf8 script → ⊥) × (new ≡ old) × IsBadRun 0 before written ran)

  module _ {K : Type 0} (held : K → Option (List ℕ)) (has_failed : K → Bool) where
    -- Nothing was run and nothing printed.
    pub record IsNothingRun (old new : T) (before written : K) (end : Result Status Failure) : Type 0 where
      pub unread : IsErrAnd end IsInputFailure
      pub same : new ≡ old
      pub silent : written ≡ before

    -- The bytes that the input gave were run, and the run ended as they did: cut by the output if and only if a write
    -- failed.
    pub record IsInputRun (old new : T) (left : Option (List ℕ)) (before written : K)
        (end : Result Status Failure) : Type 0 where
      pub script : List ℕ
      pub are : AreScriptBytes left script
      pub ran : Result Status ScriptFault
      pub run : IsRunOfBytes old new script (held before) (held written) ran
      pub failed : has_failed written ≡ (if is_cut_by_output ran then true else has_failed before)
      pub ends : IsEndOf ran end

    -- An allocation or the input failed, and nothing was done, or what the input gave was run.
    abbrev pub IsAnsweredInput : (old new : T) → (left : Option (List ℕ)) → (before written : K) → Result Status Failure
        → Type 0
    IsAnsweredInput old new left before written end =
        IsNothingRun old new before written end ⊎ IsInputRun old new left before written end

module _ {T : Type 0} (m : Meaning T) where
  -- If a file of a first policy is named, what that file holds was taken as one, or not. `holds` states what the file
  -- at a path holds, if that is known.
  abbrev pub IsNamedPolicyTaken : (holds : List ℕ → Option (List ℕ)) → (old new : T) → Option (Bor (List ℕ))
      → Result Status Failure → Type 0
  IsNamedPolicyTaken holds old new None end = (end ≡ Ok Done) × (new ≡ old)
  IsNamedPolicyTaken holds old new (Some path) end =
      IsPolicyTaken m old new end (holds path.now)

  module _ {W : Type 0} (opens : List ℕ → W → Type 0) (contents : W → Option (List ℕ)) {K : Type 0}
      (held : K → Option (List ℕ)) (has_failed : K → Bool) where
    -- The first policy was taken, if one is named, and then the script was run over the tables that it left. If the
    -- policy was not taken, that is the end, and nothing is printed.
    pub record IsRunAfterPolicy (holds : List ℕ → Option (List ℕ)) (old new : T) (policy : Option (Bor (List ℕ)))
        (log : Option (RunLog W)) (left : Option (List ℕ)) (before written : K) (end : Result Status Failure)
        : Type 0 where
      pub mid : T
      pub taken : Result Status Failure
      pub takes : IsNamedPolicyTaken holds old mid policy taken
      pub sure : m.is_sure new → m.is_sure mid
      pub runs : MatchResult taken (λ _. IsRunWithLog m contents log
          (λ told ran. IsAnsweredInput m told held has_failed mid new left before written ran) end)
          (λ failure. (end ≡ Err failure) × (new ≡ mid) × (written ≡ before))

    -- Before that the log was opened, if one is named. If it was not, that is the end, and nothing is done or printed.
    pub record IsProgramRun (holds : List ℕ → Option (List ℕ)) (old new : T) (policy path : Option (Bor (List ℕ)))
        (left : Option (List ℕ)) (before written : K) (end : Result Status Failure) : Type 0 where
      pub log : Result (Option (RunLog W)) Failure
      pub opened : IsLogAt opens path log
      pub runs : MatchResult log (λ log. IsRunAfterPolicy holds old new policy log left before written end)
          (λ failure. (end ≡ Err failure) × (new ≡ old) × (written ≡ before))
