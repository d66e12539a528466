-- Statuses: the outcome of the answers of a run.
use Rattle.std.specs.Prelude.{Bool, true, false, if◌then◌else◌, List}
use Rattle.std.specs.List.{list_any}
use Rattle.opc_terms.specs.declared.fault.Fault.TheVariants as fault
use Rattle.opc_machine.specs.declared.request.Answer.{Answer}
use Rattle.opc_machine.specs.declared.request.Answer.TheVariants as answer
use Rattle.opc_cli_failures.specs.declared.status.Status.{Status}
use Rattle.opc_cli_failures.specs.declared.status.Status.TheVariants.{Done, Refused, Failed}

abbrev pub is_aborted : Answer → Bool
is_aborted (answer.Refused fault.NoMemory rule) = true
is_aborted (answer.Refused fault.Store rule) = true
is_aborted other = false

abbrev pub is_refused : Answer → Bool
is_refused (answer.Refused fault rule) = true
is_refused (answer.Done lines rule) = false

-- Failed if an allocation or the store failed, otherwise refused if anything was refused, otherwise done.
abbrev pub status_of : List Answer → Status
status_of answers = if list_any is_aborted answers then Failed else
    (if list_any is_refused answers then Refused else Done)
