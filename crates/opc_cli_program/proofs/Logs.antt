-- The log of a run over tables with a cache, and of one that was not begun.
use Rattle.std.proofs.Common.{ℕ, List, Option, Some, None, Result, Err, refl}
use Rattle.opc_state.specs.Meaning.{Meaning}
use Rattle.opc_state.specs.State.{State}
use Rattle.opc_state_cache.specs.Cache.{IsCached}
use Rattle.opc_state_cache.specs.Meaning.{cached_meaning}
use Rattle.opc_state_cache.specs.declared.cached.Cached.{Cached}
use Rattle.opc_machine.specs.declared.request.Answer.{Answer}
use Rattle.opc_machine.specs.declared.request.Request.{Request}
use Rattle.opc_cli_failures.specs.declared.failure.Failure.{Failure}
use Rattle.opc_cli_failures.specs.declared.status.Status.{Status}
use Rattle.opc_cli_script.specs.Handlers.{AreSteps}
use Rattle.opc_cli_log.specs.RunLogs.{IsLogOf, IsLoggedRequest}
use Rattle.opc_cli_log.specs.declared.gate.LoggedGate.{LoggedGate}
use Rattle.opc_cli_log.specs.declared.log.RunLog.{RunLog}
use Rattle.opc_cli_log.proofs.Logged.{log_of}
use Rattle.opc_cli_program.specs.Logging.{IsRunWithLog}

module _ {T : Type 0} (m : Meaning T) {W : Type 0} (contents : W → Option (List ℕ)) where
  pub log_below : (x y : LoggedGate (Cached T) W)
      → ((s : State) → m.represents x.gate.tables s → IsCached m x.gate.tables x.gate.recent x.gate.flags s)
      → (rs : List (ℕ × Request)) (answers : List Answer)
      → AreSteps (IsLoggedRequest (cached_meaning m) contents) x y rs answers
      → IsLogOf m contents x.log y.log x.gate.tables y.gate.tables rs answers
  log_below x y above rs answers steps =
      let log = log_of (cached_meaning m) contents rs answers x y steps in
      record {
        entries = log.entries;
        asked = log.asked;
        answered = log.answered;
        added = log.added;
        known = λ sure s represented. log.known sure s (above s represented);
      }

  -- Nothing was run, so nothing was logged.
  pub without_run : (log : Option (RunLog W))
      → (is : ((old new : T) → List (ℕ × Request) → List Answer → Type 0) → Result Status Failure → Type 0) (failure : Failure)
      → ((told : (old new : T) → List (ℕ × Request) → List Answer → Type 0) → is told (Err failure))
      → IsRunWithLog m contents log is (Err failure)
  without_run None is failure nothing = nothing _
  without_run (Some log) is failure nothing = (log, Err failure, nothing _, refl)
