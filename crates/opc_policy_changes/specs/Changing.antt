-- Whether a request may change what a policy file has of a state.
use Rattle.std.specs.Prelude.{ℕ, Bool, true, false, List, Result, Ok, Err}
use Rattle.opc_terms.specs.declared.fault.Fault.{Fault}
use Rattle.opc_terms.specs.declared.fault.Fault.TheVariants as why
use Rattle.opc_reader_commands.specs.declared.command.Command.{Command}
use Rattle.opc_reader_commands.specs.declared.command.Command.TheVariants.{VaryConsoleAuth}
use Rattle.opc_reader.specs.Reading.{reading}
use Rattle.opc_reader.specs.declared.line.ReadFault.{ReadFault}
use Rattle.opc_machine.specs.declared.request.Answer.{Answer}
use Rattle.opc_machine.specs.declared.request.Answer.TheVariants.{Done, Refused}
use Rattle.opc_machine.specs.declared.request.Request.{Request}
use Rattle.opc_machine.specs.declared.request.Request.TheVariants as request

-- V CN(..),AUTH
abbrev pub gives_authority : Result Command ReadFault → Bool
gives_authority (Ok (VaryConsoleAuth name auth)) = true
gives_authority (Ok command) = false
gives_authority (Err fault) = false

abbrev pub is_authority : (text : List ℕ) → Bool
is_authority text = gives_authority (reading text)

-- an operation, an import, or V CN(..),AUTH
abbrev pub may_edit : Request → Bool
may_edit (request.Command console text) = is_authority text
may_edit (request.Admin console operation) = true
may_edit (request.ListProfiles console class) = false
may_edit (request.ListAccount console from count) = false
may_edit (request.Import console batch rows) = true
may_edit (request.Event event) = false

abbrev pub is_store_fault : Fault → Bool
is_store_fault why.Store = true
is_store_fault fault = false

-- one of these that is done; or the store failed, and it is not known what it keeps
abbrev pub may_change : Request → Answer → Bool
may_change request (Done lines rule) = may_edit request
may_change request (Refused fault rule) = is_store_fault fault
