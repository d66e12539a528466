-- What is reported if there is a fault.
use Rattle.std.specs.Prelude.{◌≡◌, ℕ, false, List, Option, Result, IfErr}
use Rattle.opc_terms.specs.declared.fault.Fault.{Fault}
use Rattle.opc_io.specs.declared.watched.Watched.{Watched}
use Rattle.opc_cli_failures.specs.declared.failure.Failure.{Failure}
use Rattle.opc_cli_failures.specs.declared.status.Status.{Status}
use Rattle.opc_cli_failures.specs.Printing.{IsReported}

module _ {E : Type 0} (shown : E → Option (List ℕ)) where
  -- A fault was printed first, unless a write failed.
  abbrev pub IsFaultReported : (quiet reported : Watched E) → Fault → Type 0
  IsFaultReported quiet reported fault = reported.failed ≡ false
      → IsReported fault (shown quiet.inner) (shown reported.inner)

  -- If it failed, its fault was.
  abbrev pub IsEndReported : (quiet reported : Watched E) → Result Status Failure → Type 0
  IsEndReported quiet reported end = IfErr end (λ failure. IsFaultReported quiet reported failure.fault)
