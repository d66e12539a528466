-- What `who` says at a console, to whoever sits there: the machine is begun from the same rows, the user logs on, and the
-- command is ruled on.
use Rattle.std.specs.Prelude.{◌≡◌, ◌↔◌, ◌&&◌, ◌||◌, ℕ, Bool, true, false, List, [], ◌∷◌, Some, None, Ok, Err, not}
use Rattle.std.specs.Option.{option_map_or}
use Rattle.opc_terms.specs.declared.need.Need.{Need}
use Rattle.opc_terms.specs.declared.unit_kind.UnitKindAt.{UnitKindAt}
use Rattle.opc_policy_members.specs.declared.row.Row.{Row}
use Rattle.opc_policy_members.specs.declared.user.User.{User}
use Rattle.opc_policy_members.specs.Members.{user_of}
use Rattle.opc_reader_commands.specs.declared.command.Command.TheVariants.{DisplayUnit, Logon}
use Rattle.opc_reader_commands.specs.declared.command.Operand.{Operand}
use Rattle.opc_reader.specs.Reading.{reading}
use Rattle.opc_board.specs.declared.board.BoardRows.{BoardRows}
use Rattle.opc_board.specs.declared.rows.ConsoleRow.{ConsoleRow}
use Rattle.opc_board.specs.declared.rows.UnitRow.{UnitRow}
use Rattle.opc_board.specs.Invariants.{console_at, unit_at}
use Rattle.opc_board.specs.Texts.{unit_line}
use Rattle.opc_state.specs.State.{State, empty}
use Rattle.opc_machine.specs.Bootstrap.{bootstrapped}
use Rattle.opc_machine.specs.Commands.{command_outcome, is_password}
use Rattle.opc_machine.specs.Outcome.{StateOutcome}
use Rattle.opc_machine.specs.Rulings.{is_allowed, ruling}
use Rattle.opc_answers.specs.declared.lines.UserLine.{UserLine}
use Rattle.opc_answers.specs.declared.wanted.Entered.{Entered}
use Rattle.opc_answers.specs.declared.wanted.Wanted.TheVariants.{Command}
use Rattle.opc_answers.specs.declared.who.Who.{Who}
use Rattle.opc_answers.specs.Laws.{enters}
use Rattle.opc_answers.specs.Logons.{acts_for}
use Rattle.opc_answers.specs.Made.{member_of}
use Rattle.opc_answers.specs.Needed.{line_in, need_in}
use Rattle.opc_answers.specs.Texts.{cannot_log_on, may}
use Rattle.opc_answers.specs.Who.{on_at, user_said, who_in}

-- The machine is begun from the rows of a policy file, which have a console and a user; `who` answers by the same rows
-- about a command at that console.
pub record IsAsked (rows : List Row) (s : State) (entered : Entered) (c : ConsoleRow) (user : User) (who : Who) : Type
    0 where
  pub begun : bootstrapped rows empty ≡ Ok s
  pub there : console_at s.board c.name ≡ Some c
  pub stored : user_of s.policy.users user.id ≡ Some user
  pub answered : who_in s (Command entered) (Some c.name) ≡ Ok who

-- what it says of the user
abbrev pub said_of : State → Who → User → UserLine
said_of s who user = user_said who (member_of s.policy.connects user)

-- A line is a LOGON of the user, with a password whose digest is stored.
pub record IsLogonOf (user : User) (text : List ℕ) : Type 0 where
  pub id : Operand (List ℕ)
  pub password : Operand (List ℕ)
  pub reads : reading text ≡ Ok (Logon id password)
  pub of_user : id.value ≡ user.id
  pub known : is_password password.value user.digest ≡ true

-- whether what a command needs is allowed at a console of a state, and so in the state to which a line leads
abbrev pub allowed_at : State → (name : List ℕ) → Need → Bool
allowed_at s name need =
    option_map_or (λ (c : ConsoleRow). is_allowed (ruling s c need)) (console_at s.board name) false

abbrev pub allowed_after : StateOutcome → (name : List ℕ) → Need → Bool
allowed_after (Ok done) name need = allowed_at done.state name need
allowed_after (Err refusal) name need = false

-- whether the console acts for the user where nobody is on
abbrev pub acts_for_user : State → ConsoleRow → User → Bool
acts_for_user s c user = acts_for c (member_of s.policy.connects user)

-- ALLOWED, WARNED or HIDDEN is said of a user exactly if the machine allows the command after a LOGON there, or without
-- one, if the console acts for the user.
abbrev pub EntersAfterALogon : Type 0
EntersAfterALogon =
    (rows : List Row) (s : State) (entered : Entered) (c : ConsoleRow) (user : User) (who : Who) (text : List ℕ)
    → IsAsked rows s entered c user who → IsLogonOf user text
    → enters (said_of s who user) ≡ (allowed_after (command_outcome s c.name text) c.name entered.need
    || (acts_for_user s c user && allowed_at s c.name entered.need))

-- A user without a digest has no password: it is said exactly if the console acts for the user, and the machine allows
-- the command there.
abbrev pub EntersWithoutADigest : Type 0
EntersWithoutADigest =
    (rows : List Row) (s : State) (entered : Entered) (c : ConsoleRow) (user : User) (who : Who)
    → IsAsked rows s entered c user who → user.digest ≡ None
    → enters (said_of s who user) ≡ (acts_for_user s c user && allowed_at s c.name entered.need)

-- NOLOGON is said exactly if the command would be allowed with the user on there, and the LOGON is refused, and the
-- console does not act for the user; and of a user without a digest, for whom no LOGON is done, exactly if the other
-- two hold.
abbrev pub allowed_on : State → ConsoleRow → User → Need → Bool
allowed_on s c user need = is_allowed (ruling s (on_at user.id c) need)

abbrev pub is_refused : StateOutcome → Bool
is_refused (Ok done) = false
is_refused (Err refusal) = true

abbrev pub SaysNoLogonIfRefused : Type 0
SaysNoLogonIfRefused =
    (rows : List Row) (s : State) (entered : Entered) (c : ConsoleRow) (user : User) (who : Who) (text : List ℕ)
    → IsAsked rows s entered c user who → IsLogonOf user text
    → cannot_log_on (said_of s who user) ≡ (allowed_on s c user entered.need
    && (not (acts_for_user s c user) && is_refused (command_outcome s c.name text)))

abbrev pub SaysNoLogonWithoutADigest : Type 0
SaysNoLogonWithoutADigest =
    (rows : List Row) (s : State) (entered : Entered) (c : ConsoleRow) (user : User) (who : Who)
    → IsAsked rows s entered c user who → user.digest ≡ None
    → cannot_log_on (said_of s who user) ≡ (allowed_on s c user entered.need && not (acts_for_user s c user))

-- A text is D A,name of a unit of a board, and it is what `who` is asked about.
pub record IsDisplayOf (entered : Entered) (text : List ℕ) (board : BoardRows) (unit : UnitRow) : Type 0 where
  pub name : Operand (List ℕ)
  pub kind : UnitKindAt
  pub reads : reading text ≡ Ok (DisplayUnit name)
  pub needs : need_in text kind ≡ Ok (Some entered.need)
  pub asks : entered.line ≡ line_in text
  pub there : unit_at board name.value ≡ Some unit

-- the answer is the line of the unit
abbrev pub IsShown : StateOutcome → UnitRow → Type 0
IsShown (Ok done) unit = done.lines ≡ unit_line unit ∷ []
IsShown (Err refusal) unit = ⊥

abbrev pub display_of : State → BoardRows → (name text : List ℕ) → StateOutcome
display_of s board name text = command_outcome (record s { board = board }) name text

-- Of D A,name: ALLOWED or WARNED is said exactly if the command is said to be done and, typed where the user is on at the
-- console and the unit is on the board, is answered with the line of the unit.
abbrev pub SaysWhoIsShownTheLine : Type 0
SaysWhoIsShownTheLine =
    (rows : List Row) (s : State) (entered : Entered) (c : ConsoleRow) (user : User) (who : Who) (text : List ℕ)
    (board : BoardRows) (unit : UnitRow)
    → IsAsked rows s entered c user who → IsDisplayOf entered text board unit
    → console_at board c.name ≡ Some (on_at user.id c)
    → (may (said_of s who user) ≡ true)
    ↔ ((enters (said_of s who user) ≡ true) × IsShown (display_of s board c.name text) unit)

-- Of the user for whom the console acts it is said exactly if the line is the answer with nobody on there.
abbrev pub SaysWhichOwnUserIsShownTheLine : Type 0
SaysWhichOwnUserIsShownTheLine =
    (rows : List Row) (s : State) (entered : Entered) (c : ConsoleRow) (user : User) (who : Who) (text : List ℕ)
    (board : BoardRows) (unit : UnitRow)
    → IsAsked rows s entered c user who → IsDisplayOf entered text board unit → console_at board c.name ≡ Some c
    → acts_for_user s c user ≡ true
    → (may (said_of s who user) ≡ true) ↔ IsShown (display_of s board c.name text) unit
