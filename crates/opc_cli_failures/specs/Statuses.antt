-- The statuses with which the program ends, and the faults of streams.
use Rattle.std.specs.Prelude.{◌≡◌, ◌⊎◌, ℕ, Option, Some, None, Result, Ok, Err}
use Rattle.std.specs.IoError.{error_kind}
use Rattle.std.specs.declared.io.Error.{Error}
use Rattle.std.specs.declared.io.ErrorKind.{ErrorKind}
use Rattle.std.specs.declared.io.ErrorKind.TheVariants.{OutOfMemory}
use Rattle.opc_terms.specs.declared.fault.Fault.{Fault}
use Rattle.opc_terms.specs.declared.fault.Fault.TheVariants.{RowFault, NoMemory, Store, NotOurs}
use Rattle.opc_cli_failures.specs.declared.failure.Failure.{Failure}
use Rattle.opc_cli_failures.specs.declared.failure.Place.{Place}
use Rattle.opc_cli_failures.specs.declared.failure.Place.TheVariants.{Database, Input}
use Rattle.opc_cli_failures.specs.declared.reason.Reason.{Reason}
use Rattle.opc_cli_failures.specs.declared.reason.Reason.TheVariants.{System, Unreadable}
use Rattle.opc_cli_failures.specs.declared.status.Status.{Status}
use Rattle.opc_cli_failures.specs.declared.status.Status.TheVariants.{Done, Refused, BadInput, Failed}

abbrev pub number_of : Status → ℕ
number_of Done = 0
number_of Refused = 1
number_of BadInput = 2
number_of Failed = 3

-- The status with which a fault ends the program: bad input; a failure if an allocation, the store or a device failed;
-- otherwise a refusal.
abbrev pub status_of : Fault → Status
status_of (RowFault row why) = BadInput
status_of NoMemory = Failed
status_of Store = Failed
status_of (NotOurs version) = Failed
status_of fault = Refused

-- the status with which the program ends
abbrev pub status_of_end : Result Status Failure → Status
status_of_end (Ok status) = status
status_of_end (Err failure) = status_of failure.fault

-- The fault that reports a failed read, write or opening: a failed allocation, or a failed device.
abbrev pub fault_of_kind : ErrorKind → Fault
fault_of_kind OutOfMemory = NoMemory
fault_of_kind kind = Store

-- An allocation, the store or a device failed.
abbrev pub IsFailure : Fault → Type 0
IsFailure fault = (fault ≡ NoMemory) ⊎ (fault ≡ Store)

-- How a read or a write that failed there with this error is reported.
abbrev pub IsErrorAt : Place → Error → Failure → Type 0
IsErrorAt at error failure = (failure.fault ≡ fault_of_kind (error_kind error))
    × (failure.cause ≡ Some (at, System error))

-- An allocation or the input failed.
abbrev pub IsInputFailure : Failure → Type 0
IsInputFailure failure = (failure.fault ≡ NoMemory) ⊎ ((error : Error) × IsErrorAt Input error failure)

-- What failed if the gate returns a fault: if its store failed, that is the database.
abbrev pub cause_in_gate : Fault → Option (Place × Reason)
cause_in_gate Store = Some (Database, Unreadable)
cause_in_gate fault = None
