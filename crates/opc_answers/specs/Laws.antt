-- What an answer says is what the access machine rules, with the user on at the console.
use Rattle.std.specs.Prelude.{◌≡◌, ◌&&◌, ◌||◌, ℕ, Bool, false, true, List, Option, Some, None, is_ok, not, unwrap_or, ◌↔◌, codes}
use Rattle.std.specs.Option.{is_none, is_some}
use Rattle.opc_names.specs.declared.class.Class.TheVariants.{Opercmds}
use Rattle.opc_terms.specs.declared.need.Need.{Need}
use Rattle.opc_policy_members.specs.declared.user.User.{User}
use Rattle.opc_policy_members.specs.Members.{user_of}
use Rattle.opc_policy.specs.Rulings.{console_ruling}
use Rattle.opc_board.specs.declared.rows.ConsoleRow.{ConsoleRow}
use Rattle.opc_state.specs.State.{State}
use Rattle.opc_machine.specs.Commands.{is_password, logon}
use Rattle.opc_machine.specs.Rulings.{ruling, is_allowed, logon_ruling, passes}
use Rattle.opc_answers.specs.declared.lines.UserLine.{UserLine}
use Rattle.opc_answers.specs.declared.logons.NoLogon.TheVariants.{NoDigest}
use Rattle.opc_answers.specs.declared.members.UserWithGroups.{UserWithGroups}
use Rattle.opc_answers.specs.declared.wanted.Entered.{Entered}
use Rattle.opc_answers.specs.declared.wanted.Wanted.TheVariants.{Command, Logon}
use Rattle.opc_answers.specs.declared.who.AskedAt.TheVariants.{OnBoard}
use Rattle.opc_answers.specs.Deciding.{decider}
use Rattle.opc_answers.specs.Logons.{Door, acts_for, door_of, gets_on, refusal}
use Rattle.opc_answers.specs.Made.{member_of}
use Rattle.opc_answers.specs.Who.{is_named, is_raised, nobody_at, on_at, or_authority, said_at, user_line, who_at}
use Rattle.opc_policy.specs.declared.ruling.Ruling.{Ruling}
use Rattle.opc_answers.specs.Texts.{cannot_log_on, is_shown_nothing, may, ruling_word}

-- the line of a user and a command, at a console if one is given
abbrev pub said : State → Need → Option (List ℕ) → User → UserLine
said s need console user = user_line s.policy (decider s.policy Opercmds need.resource) console need.level user

-- At one console: the line of a stored user has the ruling on the command with that user logged on there.
abbrev pub SaysTheRulingAtAConsole : Type 0
SaysTheRulingAtAConsole = (s : State) (need : Need) (c : ConsoleRow) (user : User)
    → user_of s.policy.users user.id ≡ Some user
    → (or_authority c need (said s need (Some c.name) user)).ruling ≡ Some (ruling s (on_at user.id c) need)

-- Everywhere: if an entry for a console raises the level of a stored user, the line of that user for the console has
-- the ruling with that user logged on there; else the line of the user has it, or, if it has none, the console's
-- authority decides.
abbrev pub SaysTheRulingWhereRaised : Type 0
SaysTheRulingWhereRaised = (s : State) (need : Need) (c : ConsoleRow) (user : User)
    → user_of s.policy.users user.id ≡ Some user → is_raised (said s need (Some c.name) user) ≡ true
    → (said s need (Some c.name) user).ruling ≡ Some (ruling s (on_at user.id c) need)

abbrev pub SaysTheRulingElsewhere : Type 0
SaysTheRulingElsewhere = (s : State) (need : Need) (c : ConsoleRow) (user : User)
    → user_of s.policy.users user.id ≡ Some user → is_raised (said s need (Some c.name) user) ≡ false
    → unwrap_or (said s need None user).ruling (console_ruling c.auth need) ≡ ruling s (on_at user.id c) need

-- No level is raised at a console for which the profile that decides has no entry.
abbrev pub RaisesWhereNamed : Type 0
RaisesWhereNamed = (s : State) (need : Need) (c : ConsoleRow) (user : User)
    → is_named (decider s.policy Opercmds need.resource) c ≡ false → is_raised (said s need (Some c.name) user) ≡ false

-- the command is said to be done: ALLOWED, WARNED or HIDDEN
abbrev pub enters : UserLine → Bool
enters line = may line || is_shown_nothing line

-- what is said of a user and a command at a console of the board
abbrev pub said_there : State → Entered → ConsoleRow → User → UserLine
said_there s entered c user = said_at (who_at s.policy s.board (Command entered) (OnBoard c)) (OnBoard c)
    (member_of s.policy.connects user)

-- A stored user may, exactly if the command is allowed with the user on there, and so is the line that it asks for, if
-- it asks for one, and the user can log on there.
abbrev pub SaysWhoMayThere : Type 0
SaysWhoMayThere = (s : State) (entered : Entered) (c : ConsoleRow) (user : User)
    → user_of s.policy.users user.id ≡ Some user
    → may (said_there s entered c user) ≡ (gets_on (member_of s.policy.connects user) (door_of s.policy c)
    && (is_allowed (ruling s (on_at user.id c) entered.need) && passes s (on_at user.id c) entered.line))

-- A stored user may enter it there, though the line may be hidden, exactly if the command is allowed and the user gets
-- on.
abbrev pub SaysWhoEntersThere : Type 0
SaysWhoEntersThere = (s : State) (entered : Entered) (c : ConsoleRow) (user : User)
    → user_of s.policy.users user.id ≡ Some user
    → enters (said_there s entered c user) ≡ (gets_on (member_of s.policy.connects user) (door_of s.policy c)
    && is_allowed (ruling s (on_at user.id c) entered.need))

-- That a stored user cannot log on is said exactly if the command is allowed with that user on there, and the user
-- cannot log on.
abbrev pub SaysWhoCannotLogOnThere : Type 0
SaysWhoCannotLogOnThere = (s : State) (entered : Entered) (c : ConsoleRow) (user : User)
    → user_of s.policy.users user.id ≡ Some user
    → cannot_log_on (said_there s entered c user) ≡ (is_allowed (ruling s (on_at user.id c) entered.need)
    && not (gets_on (member_of s.policy.connects user) (door_of s.policy c)))

-- Whoever has a digest is admitted exactly if the machine's ruling on a LOGON there allows,
abbrev pub AdmitsAsTheMachineDoes : Type 0
AdmitsAsTheMachineDoes = (s : State) (c : ConsoleRow) (user : User) (digest : List ℕ) → user.digest ≡ Some digest
    → is_none (refusal (door_of s.policy c) (member_of s.policy.connects user))
    ≡ is_allowed (logon_ruling s c user)

-- and one without is admitted nowhere.
abbrev pub AdmitsNobodyWithoutADigest : Type 0
AdmitsNobodyWithoutADigest = (d : Door) (m : UserWithGroups) → m.user.digest ≡ None → refusal d m ≡ Some NoDigest

-- The line of a user and a LOGON there: for a user with a digest, it has the ruling of the machine,
abbrev pub said_of_logon : State → ConsoleRow → User → UserLine
said_of_logon s c user =
    said_at (who_at s.policy s.board (Logon c.name) (OnBoard c)) (OnBoard c) (member_of s.policy.connects user)

abbrev pub SaysTheLogonRuling : Type 0
SaysTheLogonRuling = (s : State) (c : ConsoleRow) (user : User) (digest : List ℕ) → user.digest ≡ Some digest
    → (said_of_logon s c user).ruling ≡ Some (logon_ruling s c user)

-- and a user may log on exactly if a digest is stored and the machine allows it.
abbrev pub SaysWhoLogsOn : Type 0
SaysWhoLogsOn = (s : State) (c : ConsoleRow) (user : User)
    → may (said_of_logon s c user) ≡ (is_some user.digest && is_allowed (logon_ruling s c user))

-- The same holds of a LOGON typed at an unattended console with the stored password: it is done exactly if the line
-- says that the user may.
abbrev pub LogsOnWhereSaid : Type 0
LogsOnWhereSaid = (s : State) (c : ConsoleRow) (user : User) (password : List ℕ)
    → user_of s.policy.users user.id ≡ Some user → c.user ≡ None → is_password password user.digest ≡ true
    → is_ok (logon s c user.id password) ≡ may (said_of_logon s c user)

-- At a console that acts for a stored user the ruling is the same without a logon.
abbrev pub OwnUsersNeedNoLogon : Type 0
OwnUsersNeedNoLogon = (s : State) (need : Need) (c : ConsoleRow) (user : User)
    → user_of s.policy.users user.id ≡ Some user → acts_for c (member_of s.policy.connects user) ≡ true
    → ruling s (nobody_at c) need ≡ ruling s (on_at user.id c) need

-- A line with a ruling says DENIED exactly if the ruling denies.
abbrev pub SaysWhatIsDenied : Type 0
SaysWhatIsDenied = (r : Ruling) → (ruling_word r ≡ codes "DENIED") ↔ (is_allowed r ≡ false)
