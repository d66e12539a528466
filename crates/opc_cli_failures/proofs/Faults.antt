-- How a failed stream ends the program.
use Rattle.std.proofs.Common.{◌≡◌, None, inl, inr, refl}
use Rattle.std.specs.declared.io.ErrorKind.{ErrorKind}
use Rattle.std.specs.declared.io.ErrorKind.TheVariants.{OutOfMemory}
use Rattle.opc_terms.specs.declared.fault.Fault.{Fault}
use Rattle.opc_terms.specs.declared.fault.Fault.TheVariants.{Store}
use Rattle.opc_cli_failures.specs.declared.status.Status.TheVariants.{Failed}
use Rattle.opc_cli_failures.specs.Statuses.{IsFailure, cause_in_gate, fault_of_kind, status_of}

pub streams_fail : (kind : ErrorKind) → status_of (fault_of_kind kind) ≡ Failed
streams_fail OutOfMemory = refl
streams_fail kind = refl

pub streams_are_failures : (kind : ErrorKind) → IsFailure (fault_of_kind kind)
streams_are_failures OutOfMemory = inl refl
streams_are_failures kind = inr refl

pub no_cause : (fault : Fault) → (fault ≡ Store → ⊥) → cause_in_gate fault ≡ None
no_cause Store h = absurd (h refl)
no_cause fault h = refl
