-- Which fault is answered, for those who are refused.
use Rattle.std.specs.Prelude.{◌≡◌, ◌≢◌, ◌⊎◌, ℕ, true, false, List, Option, Some, None, Err}
use Rattle.opc_names.specs.declared.class.Class.{Class}
use Rattle.opc_terms.specs.declared.fault.Fault.{Fault}
use Rattle.opc_terms.specs.declared.fault.Fault.TheVariants as fault
use Rattle.opc_policy_members.specs.declared.row.Row.{Row}
use Rattle.opc_policy_members.specs.declared.user.User.{User}
use Rattle.opc_reader_commands.specs.declared.command.Command.TheVariants as command
use Rattle.opc_reader_commands.specs.declared.command.Operand.{Operand}
use Rattle.opc_reader.specs.declared.line.ReadFault.{ReadFault}
use Rattle.opc_reader.specs.Lines.{IsReadFault}
use Rattle.opc_board.specs.declared.rows.ConsoleRow.{ConsoleRow}
use Rattle.opc_board.specs.Invariants.{console_at}
use Rattle.opc_state.specs.declared.change.Batch.{Batch}
use Rattle.opc_state.specs.State.{State}
use Rattle.opc_machine.specs.declared.request.Answer.{Answer}
use Rattle.opc_machine.specs.declared.request.Answer.TheVariants.{Refused}
use Rattle.opc_machine.specs.declared.operation.Operation.{Operation}
use Rattle.opc_machine.specs.Administration.{changed}
use Rattle.opc_machine.specs.Bootstrap.{with_rows}
use Rattle.opc_machine.specs.Faults.{line_fault}
use Rattle.opc_machine.specs.Imports.{batch_of}
use Rattle.opc_machine.specs.Inputs.{Input, console_of}
use Rattle.opc_machine.specs.Inputs as input
use Rattle.opc_machine.specs.Machine.{IsAborted, Step}
use Rattle.opc_machine.specs.Rights.{account_shown, is_special, may_change}
use Rattle.opc_machine.specs.Rulings.{acting}
use Rattle.opc_machine_laws.specs.ChangingLaws.{MayAsk}
use Rattle.opc_machine_laws.specs.Laws.{IsHeard, IsKnown}
use Rattle.opc_machine_laws.specs.RightLaws.{changed_profile}

-- The request is refused by this fault, which names no rule, unless it is aborted.
abbrev pub IsRefusedBy : State → Input → Fault → Type 0
IsRefusedBy s r fault = (moment : ℕ) (answer : Answer) (new : State) → Step s moment r answer new → IsAborted answer
    ⊎ (answer ≡ Refused fault None)

-- The console that is named is not there, or is offline.
abbrev pub MissingConsolesAreAnswered : Type 0
MissingConsolesAreAnswered = (s : State) (r : Input) (name : List ℕ) → console_of r ≡ Some name
    → console_at s.board name ≡ None → IsRefusedBy s r fault.NoConsole

abbrev pub OfflineConsolesAreAnswered : Type 0
OfflineConsolesAreAnswered =
    (s : State) (r : Input) (name : List ℕ) (console : ConsoleRow) → console_of r ≡ Some name
    → console_at s.board name ≡ Some console → console.online ≡ false
    → IsRefusedBy s r fault.ConsoleOffline

-- The line that is typed is not a command.
abbrev pub BadLinesAreAnswered : Type 0
BadLinesAreAnswered =
    (s : State) (name text : List ℕ) (console : ConsoleRow) (bad : ReadFault) → console_at s.board name ≡ Some console
    → console.online ≡ true → IsReadFault text bad
    → IsRefusedBy s (input.Command name text) (line_fault bad)

-- Somebody is logged on already at a LOGON; the password is not the user's, or there is no such user; nobody is logged
-- on who could log off.
abbrev pub IsOutOfTurn : State → List ℕ → List ℕ → ConsoleRow → Fault → Type 0
IsOutOfTurn s name text console (fault.AlreadyOn user) =
    (id : Operand (List ℕ)) × (password : Operand (List ℕ)) × IsHeard s name text console (command.Logon id password)
    × (console.user ≡ Some user)
IsOutOfTurn s name text console fault.BadLogon =
    (id : Operand (List ℕ)) × (password : Operand (List ℕ)) × IsHeard s name text console (command.Logon id password)
    × (console.user ≡ None)
    × ((user : User) → IsKnown s id.value password.value user → ⊥)
IsOutOfTurn s name text console fault.NotOn = IsHeard s name text console command.Logoff × (console.user ≡ None)
IsOutOfTurn s name text console other = ⊥

abbrev pub LogonFaultsAreAnswered : Type 0
LogonFaultsAreAnswered = (s : State) (name text : List ℕ) (console : ConsoleRow) (fault : Fault)
    → IsOutOfTurn s name text console fault → IsRefusedBy s (input.Command name text) fault

-- A profile may be changed by its owner, or by SPECIAL; everything else, by SPECIAL alone.
abbrev pub missing_right : Option (Class × List ℕ) → Fault
missing_right None = fault.NotSpecial
missing_right (Some profile) = fault.NotOwner

-- The console may make a request, but not this one: the right is missing, whatever else is in the way.
abbrev pub LacksRight : State → Input → ConsoleRow → Fault → Type 0
LacksRight s (input.Admin name o) console returned =
    MayAsk s name console × (may_change s console o ≡ false) × (returned ≡ missing_right (changed_profile o))
LacksRight s (input.ListAccount name from count) console returned =
    MayAsk s name console × (account_shown s console ≡ false) × (returned ≡ fault.NotSpecial)
LacksRight s (input.Import name number rows) console returned =
    MayAsk s name console × (is_special (acting s console) ≡ false) × (returned ≡ fault.NotSpecial)
LacksRight s other console returned = ⊥

abbrev pub MissingRightsAreAnswered : Type 0
MissingRightsAreAnswered = (s : State) (r : Input) (console : ConsoleRow) (fault : Fault) → LacksRight s r console fault
    → IsRefusedBy s r fault

-- The right is there, and something is in the way of the change, or of a row; or the batch is stored with other rows.
abbrev pub AdministrationFaultsAreAnswered : Type 0
AdministrationFaultsAreAnswered =
    (s : State) (name : List ℕ) (o : Operation) (console : ConsoleRow) (fault : Fault) → MayAsk s name console
    → may_change s console o ≡ true → changed s o ≡ Err fault
    → IsRefusedBy s (input.Admin name o) fault

abbrev pub ImportFaultsAreAnswered : Type 0
ImportFaultsAreAnswered =
    (s : State) (name : List ℕ) (number : ℕ) (rows : List Row) (console : ConsoleRow) (fault : Fault)
    → MayAsk s name console → is_special (acting s console) ≡ true → batch_of s.batches number ≡ None
    → with_rows rows s ≡ Err fault
    → IsRefusedBy s (input.Import name number rows) fault

abbrev pub ChangedBatchesAreAnswered : Type 0
ChangedBatchesAreAnswered =
    (s : State) (name : List ℕ) (number : ℕ) (rows : List Row) (console : ConsoleRow) (kept : Batch)
    → MayAsk s name console → is_special (acting s console) ≡ true → batch_of s.batches number ≡ Some kept
    → kept.rows ≢ rows
    → IsRefusedBy s (input.Import name number rows) fault.BatchChanged
