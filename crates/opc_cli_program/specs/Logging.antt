-- The log of a run.
use Rattle.std.specs.Prelude.{◌≡◌, ℕ, List, Option, Some, None, Result, Ok, Err, IsErrAnd}
use Rattle.std.specs.Borrow.{Bor}
use Rattle.std.specs.declared.io.Error.{Error}
use Rattle.opc_state.specs.Meaning.{Meaning}
use Rattle.opc_machine.specs.declared.request.Answer.{Answer}
use Rattle.opc_machine.specs.declared.request.Request.{Request}
use Rattle.opc_cli_failures.specs.declared.failure.Failure.{Failure}
use Rattle.opc_cli_failures.specs.declared.failure.Place.TheVariants as place
use Rattle.opc_cli_failures.specs.declared.status.Status.{Status}
use Rattle.opc_cli_failures.specs.Statuses.{IsErrorAt}
use Rattle.opc_cli_script.specs.Handlers.{AreSteps, nothing_more}
use Rattle.opc_cli_log.specs.RunLogs.{IsLogOf}
use Rattle.opc_cli_log.specs.declared.log.RunLog.{RunLog}

-- If a log is named, its file was opened, or not. `opens` states that the file at a path was.
abbrev pub IsLogAt : {W : Type 0} → (opens : List ℕ → W → Type 0) → Option (Bor (List ℕ))
    → Result (Option (RunLog W)) Failure → Type 0
IsLogAt opens None log = log ≡ Ok None
IsLogAt opens (Some path) (Ok None) = ⊥
IsLogAt opens (Some path) (Ok (Some log)) = opens path.now log.output.inner × (log.fault ≡ None)
IsLogAt opens (Some path) (Err failure) = (error : Error) × IsErrorAt place.Log error failure

-- How a run ends that had this outcome, and whose log has this fault. A run that failed reports that alone.
abbrev pub IsLoggedEnd : (ran : Result Status Failure) → Option Error → (end : Result Status Failure) → Type 0
IsLoggedEnd (Ok status) None end = end ≡ Ok status
IsLoggedEnd (Ok status) (Some error) end = IsErrAnd end (IsErrorAt place.Log error)
IsLoggedEnd (Err failure) fault end = end ≡ Err failure

-- A run as it is without a log; or with one, to which the lines of its requests were added. `is` states the run, by
-- what is more known of its requests, and by its outcome.
module _ {T : Type 0} (m : Meaning T) {W : Type 0} (contents : W → Option (List ℕ)) where
  abbrev pub IsRunWithLog : Option (RunLog W)
      → (is : ((old new : T) → List (ℕ × Request) → List Answer → Type 0) → Result Status Failure → Type 0)
      → (end : Result Status Failure) → Type 0
  IsRunWithLog None is end = is (AreSteps nothing_more) end
  IsRunWithLog (Some log) is end =
      (last : RunLog W) × (ran : Result Status Failure) × is (IsLogOf m contents log last) ran
      × IsLoggedEnd ran last.fault end
