-- The outcome of a command, and that of an event.
use Rattle.std.specs.Prelude.{
  Bool,
  true,
  false,
  not,
  ℕ,
  List,
  [],
  Option,
  Some,
  None,
  Result,
  Ok,
  Err,
  filter,
  if◌then◌else◌,
}
use Rattle.std.specs.Option.{is_none, option_and_then}
use Rattle.std.specs.Str.{bytes_eq}
use Rattle.sha2.specs.Sha256.{sha256}
use Rattle.opc_terms.specs.declared.fault.Fault.{Fault}
use Rattle.opc_terms.specs.declared.fault.Fault.TheVariants as fault
use Rattle.opc_terms.specs.declared.need.Need.{Need}
use Rattle.opc_terms.specs.declared.rule.Rule.{Rule}
use Rattle.opc_terms.specs.declared.rule.Rule.TheVariants as rule
use Rattle.opc_policy.specs.declared.ruling.Ruling.{Ruling}
use Rattle.opc_policy.specs.declared.ruling.Ruling.TheVariants.{Allowed, Denied}
use Rattle.opc_terms.specs.declared.unit_kind.UnitKindAt.{UnitKindAt}
use Rattle.opc_terms.specs.declared.unit_kind.UnitKindAt.TheVariants.{Absent}
use Rattle.opc_policy_members.specs.declared.user.User.{User}
use Rattle.opc_policy_members.specs.Members.{user_of}
use Rattle.opc_reader_commands.specs.declared.command.Command.{Command}
use Rattle.opc_reader_commands.specs.declared.command.Command.TheVariants as command
use Rattle.opc_reader.specs.declared.line.ReadFault.{ReadFault}
use Rattle.opc_reader.specs.Reading.{reading}
use Rattle.opc_table.specs.Table.{need}
use Rattle.opc_board.specs.declared.board.BoardRows.{BoardRows}
use Rattle.opc_board.specs.declared.event.Event.{Event}
use Rattle.opc_board.specs.declared.rows.ConsoleRow.{ConsoleRow}
use Rattle.opc_board.specs.Consoles.{logged_on, logged_off}
use Rattle.opc_board.specs.Effect.{effect, event_effect}
use Rattle.opc_board.specs.Invariants.{console_at, kind_at}
use Rattle.opc_board.specs.Outcome.{Done, BoardOutcome}
use Rattle.opc_state.specs.State.{State}
use Rattle.opc_machine.specs.Faults.{line_fault, board_fault}
use Rattle.opc_machine.specs.declared.outcome.Refusal.{Refusal}
use Rattle.opc_machine.specs.Outcome.{StateOutcome, ◌>>=◌, does, refused, found, refuse_if}
use Rattle.opc_machine.specs.Rulings.{ruling, logon_ruling, shown}

-- the console that is named: it is there, and online
abbrev pub console_for : State → List ℕ → Result ConsoleRow Refusal
console_for s name = do
  c ← found fault.NoConsole (console_at s.board name)
  _ ← refuse_if fault.ConsoleOffline None (not c.online)
  Ok c

abbrev pub command_or : Result Command ReadFault → Result Command Refusal
command_or (Ok c) = Ok c
command_or (Err f) = refused (line_fault f) None

-- the command that a line is
abbrev pub command_in : List ℕ → Result Command Refusal
command_in text = command_or (reading text)

-- the kind of the unit that a command names, if the need of the command depends on it
abbrev pub kind_named : BoardRows → Command → UnitKindAt
kind_named b (command.Cancel name) = kind_at b name.value
kind_named b (command.Force name) = kind_at b name.value
kind_named b (command.Stop name) = kind_at b name.value
kind_named b (command.Modify name text) = kind_at b name.value
kind_named b c = Absent

-- what a command needs; LOGON and LOGOFF need nothing
abbrev pub need_of : BoardRows → Command → Option Need
need_of b c = need c (kind_named b c)

abbrev pub denial_fault : Rule → Fault
denial_fault rule.LogonRequired = fault.LogonRequired
denial_fault rule.Revoked = fault.Revoked
denial_fault (rule.Profile class pattern held needed warned) = fault.DeniedProfile
denial_fault rule.NoProfile = fault.DeniedProfile
denial_fault (rule.ConsoleGroup group auth) = fault.DeniedGroup

abbrev pub allowed : Ruling → Result Rule Refusal
allowed (Allowed rule) = Ok rule
allowed (Denied rule) = refused (denial_fault rule) (Some rule)

-- what the board makes of it, whose fault names the rule that allowed the command
abbrev pub acted : Option Rule → BoardOutcome → Result Done Refusal
acted rule (Ok d) = Ok d
acted rule (Err f) = refused (board_fault f) rule

-- the commands that only show
abbrev pub is_display : Command → Bool
is_display command.DisplayUnits = true
is_display (command.DisplayUnit name) = true
is_display command.DisplayDevices = true
is_display command.DisplayConsoles = true
is_display command.DisplayReplies = true
is_display other = false

-- A command that needs something: if it is allowed, it acts on the board, and gives those of its lines that may be
-- shown.
abbrev pub board_command : State → ConsoleRow → Command → Need → StateOutcome
board_command s c command need = do
  rule ← allowed (ruling s c need)
  act ← acted (Some rule) (effect s.board command c.name)
  does (record s { board = act.board }) (filter (shown s c) act.lines) (Some rule)

-- nobody may be logged on already
abbrev pub nobody_on : Option (List ℕ) → Result (Unit {0}) Refusal
nobody_on None = Ok tt
nobody_on (Some user) = refused (fault.AlreadyOn user) None

abbrev pub is_password : List ℕ → Option (List ℕ) → Bool
is_password password None = false
is_password password (Some digest) = bytes_eq digest (sha256 password)

-- the user of a logon, if the password is the user's
abbrev pub known_by : State → List ℕ → List ℕ → Option User
known_by s id password = option_and_then (λ (u : User). if is_password password u.digest then Some u else None)
    (user_of s.policy.users id)

abbrev pub logon_fault : Rule → Fault
logon_fault rule.Revoked = fault.Revoked
logon_fault (rule.Profile class pattern held needed warned) = fault.DeniedConsole
logon_fault rule.NoProfile = fault.DeniedConsole
logon_fault (rule.ConsoleGroup group auth) = fault.DeniedConsole
logon_fault rule.LogonRequired = fault.DeniedConsole

abbrev pub admit : Ruling → Result Rule Refusal
admit (Allowed rule) = Ok rule
admit (Denied rule) = refused (logon_fault rule) (Some rule)

abbrev pub logon : State → ConsoleRow → List ℕ → List ℕ → StateOutcome
logon s c id password = do
  _ ← nobody_on c.user
  user ← found fault.BadLogon (known_by s id password)
  rule ← admit (logon_ruling s c user)
  does (record s { board = logged_on c.name id s.board }) [] (Some rule)

abbrev pub logoff : State → ConsoleRow → StateOutcome
logoff s c = do
  _ ← refuse_if fault.NotOn None (is_none c.user)
  does (record s { board = logged_off c.name s.board }) [] None

-- The commands that need nothing are LOGON and LOGOFF.
abbrev pub without_need : State → ConsoleRow → Command → StateOutcome
without_need s c (command.Logon id password) = logon s c id.value password.value
without_need s c command.Logoff = logoff s c
without_need s c other = does s [] None

abbrev pub typed : State → ConsoleRow → Command → Option Need → StateOutcome
typed s c command (Some need) = board_command s c command need
typed s c command None = without_need s c command

-- A command typed at a console.
abbrev pub command_outcome : State → List ℕ → List ℕ → StateOutcome
command_outcome s name text = do
  c ← console_for s name
  command ← command_in text
  typed s c command (need_of s.board command)

-- An event, which has no rule.
abbrev pub event_outcome : State → Event → StateOutcome
event_outcome s e = do
  act ← acted None (event_effect s.board e)
  does (record s { board = act.board }) [] None
