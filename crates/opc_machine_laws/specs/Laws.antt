-- What the access machine means for those who use it.
use Rattle.std.specs.Prelude.{
  ◌≡◌,
  ◌⊎◌,
  ◌↔◌,
  ℕ,
  true,
  List,
  [],
  ◌∷◌,
  ◌++◌,
  Option,
  Some,
  None,
  Ok,
  Err,
  filter,
  Contains,
}
use Rattle.std.specs.Option.{is_some}
use Rattle.sha2.specs.Sha256.{sha256}
use Rattle.opc_names.specs.declared.class.Class.{Class}
use Rattle.opc_names.specs.declared.class.Class.TheVariants.{Console, Opercmds}
use Rattle.opc_terms.specs.declared.fault.Fault.{Fault}
use Rattle.opc_terms.specs.declared.fault.Fault.TheVariants as fault
use Rattle.opc_terms.specs.declared.need.Need.{Need}
use Rattle.opc_terms.specs.declared.rule.Rule.{Rule}
use Rattle.opc_terms.specs.declared.rule.Rule.TheVariants as rule
use Rattle.opc_policy.specs.declared.ruling.Ruling.TheVariants.{Allowed, Denied}
use Rattle.opc_policy_members.specs.declared.user.User.{User}
use Rattle.opc_terms.specs.Faults.{fault_code}
use Rattle.opc_policy_members.specs.Members.{user_of}
use Rattle.opc_reader_commands.specs.declared.command.Command.{Command}
use Rattle.opc_reader_commands.specs.declared.command.Command.TheVariants as command
use Rattle.opc_reader_commands.specs.declared.command.Operand.{Operand}
use Rattle.opc_reader.specs.Lines.{Reads}
use Rattle.opc_board.specs.declared.fault.BoardFault.{BoardFault}
use Rattle.opc_board.specs.declared.line.Line.{Line}
use Rattle.opc_board.specs.declared.rows.ConsoleRow.{ConsoleRow}
use Rattle.opc_board.specs.Consoles.{logged_on, logged_off}
use Rattle.opc_board.specs.Effect.{effect}
use Rattle.opc_board.specs.Invariants.{console_at}
use Rattle.opc_board.specs.Outcome.{Done as BoardDone}
use Rattle.opc_state.specs.State.{State}
use Rattle.opc_machine.specs.declared.request.Answer.{Answer}
use Rattle.opc_machine.specs.declared.request.Answer.TheVariants.{Done, Refused}
use Rattle.opc_machine.specs.Faults.{board_fault}
use Rattle.opc_machine.specs.Inputs.{Input}
use Rattle.opc_machine.specs.Inputs as input
use Rattle.opc_machine.specs.Rulings.{ruling, logon_denial, logon_ruling, shown}
use Rattle.opc_machine.specs.Commands.{need_of}
use Rattle.opc_machine.specs.Machine.{Runs, Step, IsAborted, account_row}

-- A line typed at a console is a command that is accepted: the console is there and online, and the line can be read.
pub record IsHeard (s : State) (name text : List ℕ) (console : ConsoleRow) (command : Command) : Type 0 where
  pub there : console_at s.board name ≡ Some console
  pub online : console.online ≡ true
  pub reads : Reads text command

-- The current policy allows it: the ruling on what it needs is Allowed.
pub record IsAllowed (s : State) (name text : List ℕ) (console : ConsoleRow) (command : Command) (why : Rule) : Type
    0 where
  pub heard : IsHeard s name text console command
  pub need : Need
  pub needs : need_of s.board command ≡ Some need
  pub allowed : ruling s console need ≡ Allowed why

-- The command acts: it is done by that rule, the board is the one that it makes, and it gives those of its lines that
-- may be shown. The policy stays.
pub record Acts (s : State) (console : ConsoleRow) (command : Command) (why : Rule) (answer : Answer)
    (new : State) : Type 0 where
  pub act : BoardDone
  pub makes : effect s.board command console.name ≡ Ok act
  pub answered : answer ≡ Done (filter (shown s console) act.lines) (Some why)
  pub board : new.board ≡ act.board
  pub policy : new.policy ≡ s.policy

-- A command that needs something acts only if the policy at that time allows it,
abbrev pub ActsOnlyWhereAllowed : Type 0
ActsOnlyWhereAllowed =
    (s : State) (moment : ℕ) (name text : List ℕ) (command : Command) (need : Need) (lines : List Line)
    (why : Option Rule) (new : State)
    → Reads text command → need_of s.board command ≡ Some need
    → Step s moment (input.Command name text) (Done lines why) new
    → (console : ConsoleRow) × (rule : Rule) × IsAllowed s name text console command rule
    × Acts s console command rule (Done lines why) new

-- and whenever it does, unless something on the board is in the way or the request is aborted.
abbrev pub ActsWhereverAllowed : Type 0
ActsWhereverAllowed =
    (s : State) (moment : ℕ) (name text : List ℕ) (console : ConsoleRow) (command : Command) (why : Rule)
    (act : BoardDone) (answer : Answer) (new : State)
    → IsAllowed s name text console command why → effect s.board command console.name ≡ Ok act
    → Step s moment (input.Command name text) answer new
    → IsAborted answer ⊎ Acts s console command why answer new

-- LOGON and LOGOFF
abbrev pub IsSession : Command → Type 0
IsSession k = ((id : Operand (List ℕ)) × (password : Operand (List ℕ)) × (k ≡ command.Logon id password))
    ⊎ (k ≡ command.Logoff)

-- Nothing else that is typed is done: only a line that is accepted, with a command that needs something, or with LOGON
-- or LOGOFF.
abbrev pub OnlyWhatIsHeardIsDone : Type 0
OnlyWhatIsHeardIsDone =
    (s : State) (moment : ℕ) (name text : List ℕ) (lines : List Line) (why : Option Rule) (new : State)
    → Step s moment (input.Command name text) (Done lines why) new
    → (console : ConsoleRow) × (command : Command) × IsHeard s name text console command
    × (IsSession command ⊎ ((need : Need) × (need_of s.board command ≡ Some need)))

-- Of the lines of a command that acts, a unit's or a console's is listed if and only if it may be shown.
abbrev pub ListsExactlyWhatMayBeShown : Type 0
ListsExactlyWhatMayBeShown =
    (s : State) (console : ConsoleRow) (command : Command) (why : Rule) (lines : List Line) (rule : Option Rule)
    (new : State) (acts : Acts s console command why (Done lines rule) new) (line : Line)
    → Contains lines line ↔ (Contains acts.act.lines line × (shown s console line ≡ true))

-- The user of this id is stored, and with the SHA-256 of this password; a user without one has no password.
pub record IsKnown (s : State) (id password : List ℕ) (user : User) : Type 0 where
  pub stored : user_of s.policy.users id ≡ Some user
  pub digest : user.digest ≡ Some (sha256 password)

-- A LOGON may admit the user: the line is accepted, nobody is logged on, the password is the user's, and the current
-- policy allows it.
pub record IsAdmitted (s : State) (name text : List ℕ) (console : ConsoleRow) (id password : Operand (List ℕ))
    (user : User) (why : Rule) : Type 0 where
  pub heard : IsHeard s name text console (command.Logon id password)
  pub nobody : console.user ≡ None
  pub known : IsKnown s id.value password.value user
  pub allowed : logon_ruling s console user ≡ Allowed why

-- The user is logged on, by that rule, and the policy stays.
pub record LogsOn (s : State) (console : ConsoleRow) (id : List ℕ) (why : Rule) (answer : Answer) (new : State) : Type
    0 where
  pub answered : answer ≡ Done [] (Some why)
  pub board : new.board ≡ logged_on console.name id s.board
  pub policy : new.policy ≡ s.policy

-- A user is logged on only if the policy at that time allows it,
abbrev pub LogsOnOnlyWhereAllowed : Type 0
LogsOnOnlyWhereAllowed =
    (s : State) (moment : ℕ) (name text : List ℕ) (id password : Operand (List ℕ)) (lines : List Line)
    (why : Option Rule) (new : State)
    → Reads text (command.Logon id password) → Step s moment (input.Command name text) (Done lines why) new
    → (console : ConsoleRow) × (user : User) × (rule : Rule) × IsAdmitted s name text console id password user rule
    × LogsOn s console id.value rule (Done lines why) new

-- and whenever it does, unless the request is aborted.
abbrev pub LogsOnWhereverAllowed : Type 0
LogsOnWhereverAllowed =
    (s : State) (moment : ℕ) (name text : List ℕ) (console : ConsoleRow) (id password : Operand (List ℕ)) (user : User)
    (why : Rule) (answer : Answer) (new : State)
    → IsAdmitted s name text console id password user why → Step s moment (input.Command name text) answer new
    → IsAborted answer ⊎ LogsOn s console id.value why answer new

-- Nobody is logged on any more, which no rule decides, and the policy stays.
pub record LogsOff (s : State) (console : ConsoleRow) (answer : Answer) (new : State) : Type 0 where
  pub answered : answer ≡ Done [] None
  pub board : new.board ≡ logged_off console.name s.board
  pub policy : new.policy ≡ s.policy

-- LOGOFF is done only if somebody is logged on,
abbrev pub LogsOffOnlyWhereSomebodyIsOn : Type 0
LogsOffOnlyWhereSomebodyIsOn =
    (s : State) (moment : ℕ) (name text : List ℕ) (lines : List Line) (why : Option Rule) (new : State)
    → Reads text command.Logoff → Step s moment (input.Command name text) (Done lines why) new
    → (console : ConsoleRow) × IsHeard s name text console command.Logoff × (is_some console.user ≡ true)
    × LogsOff s console (Done lines why) new

-- and whenever somebody is, unless the request is aborted.
abbrev pub LogsOffWhereverSomebodyIsOn : Type 0
LogsOffWhereverSomebodyIsOn =
    (s : State) (moment : ℕ) (name text : List ℕ) (console : ConsoleRow) (answer : Answer) (new : State)
    → IsHeard s name text console command.Logoff → is_some console.user ≡ true
    → Step s moment (input.Command name text) answer new
    → IsAborted answer ⊎ LogsOff s console answer new

-- A refusal leaves board, policy and batches, and adds its row to the account.
pub record IsRefusal (s : State) (moment : ℕ) (r : Input) (fault : Fault) (why : Option Rule) (new : State) : Type
    0 where
  pub board : new.board ≡ s.board
  pub policy : new.policy ≡ s.policy
  pub batches : new.batches ≡ s.batches
  pub account : new.account ≡ s.account ++ account_row s moment r (fault_code fault) why ∷ []

-- One that is aborted leaves everything.
abbrev pub RefusalsChangeNothing : Type 0
RefusalsChangeNothing =
    (s : State) (moment : ℕ) (r : Input) (fault : Fault) (why : Option Rule) (new : State)
    → Step s moment r (Refused fault why) new
    → (IsAborted (Refused fault why) × (new ≡ s)) ⊎ IsRefusal s moment r fault why new

-- A request that is answered as aborted has changed nothing, not even the account.
abbrev pub AbortsChangeNothing : Type 0
AbortsChangeNothing = (s : State) (moment : ℕ) (r : Input) (fault : Fault) (why : Option Rule) (new : State)
    → IsAborted (Refused fault why) → Step s moment r (Refused fault why) new → new ≡ s

-- Only two answers abort a request: an allocation failed, or the store did.
abbrev pub AbortsWithoutMemoryOrStore : Type 0
AbortsWithoutMemoryOrStore = (answer : Answer) → IsAborted answer → (answer ≡ Refused fault.NoMemory None)
    ⊎ (answer ≡ Refused fault.Store None)

-- the refusals for lack of authority
abbrev pub IsOfAuthority : Fault → Type 0
IsOfAuthority fault.LogonRequired = Unit {0}
IsOfAuthority fault.Revoked = Unit {0}
IsOfAuthority fault.DeniedConsole = Unit {0}
IsOfAuthority fault.DeniedProfile = Unit {0}
IsOfAuthority fault.DeniedGroup = Unit {0}
IsOfAuthority other = ⊥

-- a rule of a profile of this class
abbrev pub IsOfProfile : Class → Rule → Type 0
IsOfProfile class (rule.Profile other pattern held needed warned) = other ≡ class
IsOfProfile class rule.NoProfile = ⊥
IsOfProfile class (rule.ConsoleGroup group auth) = ⊥
IsOfProfile class rule.LogonRequired = ⊥
IsOfProfile class rule.Revoked = ⊥

abbrev pub IsOfConsole : Rule → Type 0
IsOfConsole (rule.ConsoleGroup group auth) = Unit {0}
IsOfConsole (rule.Profile class pattern held needed warned) = ⊥
IsOfConsole rule.NoProfile = ⊥
IsOfConsole rule.LogonRequired = ⊥
IsOfConsole rule.Revoked = ⊥

-- what kind of rule each of them names, and no other fault names a rule that denies: the logon rule, a profile of the
-- class that was searched, or a console's group
abbrev pub IsNamedBy : Fault → Rule → Type 0
IsNamedBy fault.LogonRequired why = why ≡ rule.LogonRequired
IsNamedBy fault.Revoked why = why ≡ rule.Revoked
IsNamedBy fault.DeniedConsole why = IsOfProfile Console why
IsNamedBy fault.DeniedProfile why = IsOfProfile Opercmds why
IsNamedBy fault.DeniedGroup why = IsOfConsole why
IsNamedBy other why = ⊥

-- The current policy denies what the line needs, by this rule.
pub record IsRuledOut (s : State) (name text : List ℕ) (why : Rule) : Type 0 where
  pub console : ConsoleRow
  pub command : Command
  pub heard : IsHeard s name text console command
  pub need : Need
  pub needs : need_of s.board command ≡ Some need
  pub denied : ruling s console need ≡ Denied why

-- The line is a LOGON of a user with the user's password, where nobody is logged on, and the current policy does not
-- admit that user, by this rule.
pub record IsKeptOff (s : State) (name text : List ℕ) (why : Rule) : Type 0 where
  pub console : ConsoleRow
  pub id : Operand (List ℕ)
  pub password : Operand (List ℕ)
  pub heard : IsHeard s name text console (command.Logon id password)
  pub nobody : console.user ≡ None
  pub user : User
  pub known : IsKnown s id.value password.value user
  pub denied : logon_ruling s console user ≡ Denied why

-- The logon rule denies every request at a console that is there and online.
pub record IsShutOut (s : State) (name : List ℕ) (why : Rule) : Type 0 where
  pub console : ConsoleRow
  pub there : console_at s.board name ≡ Some console
  pub online : console.online ≡ true
  pub denied : logon_denial s console ≡ Some why

abbrev pub IsDeniedBy : State → Input → Rule → Type 0
IsDeniedBy s (input.Command name text) why = IsRuledOut s name text why ⊎ IsKeptOff s name text why
IsDeniedBy s (input.Admin name operation) why = IsShutOut s name why
IsDeniedBy s (input.ListProfiles name class) why = IsShutOut s name why
IsDeniedBy s (input.ListAccount name from count) why = IsShutOut s name why
IsDeniedBy s (input.Import name batch rows) why = IsShutOut s name why
IsDeniedBy s (input.Event e) why = ⊥

-- A refusal for lack of authority names its rule, and that rule denies by the policy at that time.
abbrev pub RefusalsOfAuthorityNameTheirRule : Type 0
RefusalsOfAuthorityNameTheirRule =
    (s : State) (moment : ℕ) (r : Input) (fault : Fault) (why : Option Rule) (new : State) → IsOfAuthority fault
    → Step s moment r (Refused fault why) new
    → (rule : Rule) × (why ≡ Some rule) × IsNamedBy fault rule × IsDeniedBy s r rule

-- Something on the board is in the way of a command that the current policy allows by this rule.
pub record IsInTheWay (s : State) (name text : List ℕ) (fault : Fault) (why : Rule) : Type 0 where
  pub console : ConsoleRow
  pub command : Command
  pub allowed : IsAllowed s name text console command why
  pub refused : BoardFault
  pub refuses : effect s.board command console.name ≡ Err refused
  pub returned : fault ≡ board_fault refused

abbrev pub IsRefusedByBoard : State → Input → Fault → Rule → Type 0
IsRefusedByBoard s (input.Command name text) fault why = IsInTheWay s name text fault why
IsRefusedByBoard s other fault why = ⊥

-- No refusal names another rule: one that denies, or one that allowed what the board refused.
abbrev pub RefusalsNameNoOtherRule : Type 0
RefusalsNameNoOtherRule =
    (s : State) (moment : ℕ) (r : Input) (fault : Fault) (why : Rule) (new : State)
    → Step s moment r (Refused fault (Some why)) new
    → (IsNamedBy fault why × IsDeniedBy s r why) ⊎ IsRefusedByBoard s r fault why

-- What the current policy denies, whatever the request, is answered by that denial and that rule, unless the request is
-- aborted.
abbrev pub DenialsAreAnswered : Type 0
DenialsAreAnswered =
    (s : State) (moment : ℕ) (r : Input) (why : Rule) (answer : Answer) (new : State) → IsDeniedBy s r why
    → Step s moment r answer new
    → IsAborted answer ⊎ ((fault : Fault) × IsNamedBy fault why × (answer ≡ Refused fault (Some why)))

-- If something on the board is in the way of what is allowed, its fault is answered with the rule that allowed it.
abbrev pub BoardFaultsAreAnswered : Type 0
BoardFaultsAreAnswered =
    (s : State) (moment : ℕ) (name text : List ℕ) (fault : Fault) (why : Rule) (answer : Answer) (new : State)
    → IsInTheWay s name text fault why → Step s moment (input.Command name text) answer new
    → IsAborted answer ⊎ (answer ≡ Refused fault (Some why))

-- A request of a list is a step from the state that those before it leave, and those after it go on from there.
pub record IsJudgedInTurn (s : State) (before : List (ℕ × Input)) (r : ℕ × Input) (later : List (ℕ × Input))
    (answers : List Answer) (new : State) : Type 0 where
  pub earlier : List Answer
  pub answer : Answer
  pub others : List Answer
  pub left : State
  pub made : State
  pub answered : answers ≡ earlier ++ answer ∷ others
  pub first : Runs s before earlier left
  pub step : Step left r.0 r.1 answer made
  pub rest : Runs made later others new

abbrev pub RequestsAreJudgedInTurn : Type 0
RequestsAreJudgedInTurn =
    (s : State) (before : List (ℕ × Input)) (r : ℕ × Input) (later : List (ℕ × Input)) (answers : List Answer)
    (new : State) → Runs s (before ++ r ∷ later) answers new
    → IsJudgedInTurn s before r later answers new

-- Without a request, nothing is answered, and nothing changes.
abbrev pub NothingAskedChangesNothing : Type 0
NothingAskedChangesNothing = (s : State) (answers : List Answer) (new : State)
    → Runs s [] answers new → (answers ≡ []) × (new ≡ s)
