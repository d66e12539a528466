-- Scripts and services over a gate, each with the number with which a program ends.
use Rattle.std.specs.Prelude.{◌≡◌, ℕ, Bool, true, List, Option, None, Result, Ok, Err, if◌then◌else◌}
use Rattle.opc_state.specs.Meaning.{Meaning}
use Rattle.opc_cli_failures.specs.declared.status.Status.{Status}
use Rattle.opc_cli_failures.specs.declared.status.Status.TheVariants.{BadInput, Done, Failed}
use Rattle.opc_cli_failures.specs.Statuses.{number_of}
use Rattle.opc_cli_script.specs.declared.script.ScriptFault.{ScriptFault}
use Rattle.opc_cli_script.specs.declared.script.ScriptFault.TheVariants.{BadLine, NoMemory, Output}
use Rattle.opc_cli_script.specs.Handlers.{AreSteps, nothing_more}
use Rattle.opc_cli_script.specs.Refusals.{is_cut_by_output}
use Rattle.opc_cli_script.specs.Running.{IsAnswered}
use Rattle.opc_http_connections.specs.Links.{ClientSource}
use Rattle.opc_http_requests.specs.declared.origins.Origins.{Origins}
use Rattle.opc_http_serve.specs.declared.arrival.ServeFault.{ServeFault}
use Rattle.opc_http_serve.specs.Handled.{AreHandled}

-- The status of a script: the outcome of its answers; or that a line was bad, or that an allocation or the output
-- failed.
abbrev pub status_of_script : Result Status ScriptFault → Status
status_of_script (Ok status) = status
status_of_script (Err (BadLine number)) = BadInput
status_of_script (Err NoMemory) = Failed
status_of_script (Err (Output error)) = Failed

-- The status of a service: done if all clients were served, and failed if one could not be accepted.
abbrev pub status_of_service : {A : Type 0} → Result A ServeFault → Status
status_of_service (Ok all) = Done
status_of_service (Err fault) = Failed

module _ {T : Type 0} (m : Meaning T) (old new : T) where
  -- A script was run, or its bad line was printed and nothing was run; and this is the number of its status. It was cut
  -- by the output if and only if a write failed.
  pub record IsScript {K : Type 0} (held : K → Option (List ℕ)) (has_failed : K → Bool) (script : List ℕ)
      (before written : K) (number : ℕ) : Type 0 where
    pub ran : Result Status ScriptFault
    pub answered : IsAnswered m (AreSteps nothing_more) old new script (held before) (held written) ran
    pub failed : has_failed written ≡ (if is_cut_by_output ran then true else has_failed before)
    pub ends : number ≡ number_of (status_of_script ran)

  -- This many clients were served, without a time limit, or fewer; and this is the number of its status.
  pub record IsService {C K : Type 0} (origins : Origins) (source : ClientSource C K) (count number : ℕ) : Type 0 where
    pub served : Result (Unit {0}) ServeFault
    pub handled : AreHandled origins m source.link source.comes None old new count served
    pub ends : number ≡ number_of (status_of_service served)
