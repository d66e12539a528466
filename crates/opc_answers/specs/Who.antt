-- Who may do what the question is about: each user, and each unattended console. An answer has what its lines are made
-- of; the lines follow from it.
use Rattle.std.specs.Prelude.{
  ◌≡◌,
  ◌||◌,
  ℕ,
  Bool,
  false,
  true,
  List,
  [],
  ◌∷◌,
  Option,
  Some,
  None,
  Result,
  Ok,
  Err,
  filter,
  map,
  nat_lt,
  not,
  if◌then◌else◌,
  unwrap_or,
}
use Rattle.std.specs.List.{flat_map, list_any}
use Rattle.std.specs.Option.{is_none, is_some, option_and_then, option_eq, option_map, option_map_or}
use Rattle.std.specs.Str.{bytes_eq}
use Rattle.opc_names.specs.declared.auth.Auth.{Auth}
use Rattle.opc_names.specs.declared.class.Class.{Class}
use Rattle.opc_names.specs.declared.class.Class.TheVariants.{Console, Opercmds}
use Rattle.opc_names.specs.declared.level.Level.{Level}
use Rattle.opc_names.specs.declared.level.Level.TheVariants.{Read}
use Rattle.opc_terms.specs.declared.fault.Fault.{Fault}
use Rattle.opc_terms.specs.declared.fault.Fault.TheVariants.{NoConsole}
use Rattle.opc_terms.specs.declared.need.Need.{Need}
use Rattle.opc_terms.specs.declared.rule.Rule.TheVariants as rule
use Rattle.opc_policy_members.specs.declared.entry.Entry.{Entry}
use Rattle.opc_policy_members.specs.declared.policy.Policy.{Policy}
use Rattle.opc_policy_members.specs.declared.profile.Profile.{Profile}
use Rattle.opc_policy_members.specs.declared.user.User.{User}
use Rattle.opc_policy_members.specs.Members.{groups_of}
use Rattle.opc_policy_members.specs.Taken.{is_active}
use Rattle.opc_policy.specs.declared.ruling.Ruling.{Ruling}
use Rattle.opc_policy.specs.declared.ruling.Ruling.TheVariants.{Allowed, Denied}
use Rattle.opc_policy.specs.Rulings.{console_ruling, profile_ruling, rule_of}
use Rattle.opc_policy_sources.specs.declared.sources.HeldLevel.{HeldLevel}
use Rattle.opc_policy_sources.specs.Sources.{held_from}
use Rattle.opc_board.specs.declared.rows.ConsoleRow.{ConsoleRow}
use Rattle.opc_board.specs.declared.board.BoardRows.{BoardRows}
use Rattle.opc_board.specs.Invariants.{console_at}
use Rattle.opc_state.specs.State.{State}
use Rattle.opc_machine.specs.Machine.{is_warned}
use Rattle.opc_machine.specs.Rulings.{is_allowed, own_user, ruling}
use Rattle.opc_answers.specs.declared.wanted.Entered.{Entered}
use Rattle.opc_answers.specs.declared.wanted.Wanted.{Wanted}
use Rattle.opc_answers.specs.declared.wanted.Wanted.TheVariants.{Command, Logon, Access}
use Rattle.opc_answers.specs.declared.consoles.ConsoleLine.{ConsoleLine}
use Rattle.opc_answers.specs.declared.lines.UserLine.{UserLine}
use Rattle.opc_answers.specs.declared.logons.Instead.{Instead}
use Rattle.opc_answers.specs.declared.logons.Instead.TheVariants as instead
use Rattle.opc_answers.specs.declared.logons.NoLogon.{NoLogon}
use Rattle.opc_answers.specs.declared.members.UserWithGroups.{UserWithGroups}
use Rattle.opc_answers.specs.declared.shows.Said.{Said}
use Rattle.opc_answers.specs.declared.shows.Said.TheVariants as said
use Rattle.opc_answers.specs.declared.shows.Shows.{Shows}
use Rattle.opc_answers.specs.declared.who.AskedAt.{AskedAt}
use Rattle.opc_answers.specs.declared.who.AskedAt.TheVariants.{Everywhere, Named, OnBoard}
use Rattle.opc_answers.specs.declared.who.Who.{Who}
use Rattle.opc_answers.specs.Deciding.{decider}
use Rattle.opc_answers.specs.Logons.{door_of, no_logon, nowhere}
use Rattle.opc_answers.specs.Made.{members_of, state_of}

-- The class, the resource and the level of the question: the resources of commands are in OPERCMDS, and a LOGON needs
-- READ of class CONSOLE on the name of its console.
abbrev pub class_of : Wanted → Class
class_of (Command entered) = Opercmds
class_of (Logon name) = Console
class_of (Access class resource level) = class

abbrev pub resource_of : Wanted → List ℕ
resource_of (Command entered) = entered.need.resource
resource_of (Logon name) = name
resource_of (Access class resource level) = resource

abbrev pub level_of : Wanted → Level
level_of (Command entered) = entered.need.level
level_of (Logon name) = Read
level_of (Access class resource level) = level

-- the profile that decides
abbrev pub decider_of : Policy → Wanted → Option Profile
decider_of p w = decider p (class_of w) (resource_of w)

-- The line of a user, at a console if one is given: a revoked user is denied; else the profile that decides rules on
-- the level that the user holds; if none decides, there is no ruling.
abbrev pub line : User → Option Ruling → Option HeldLevel → UserLine
line user ruling held = record { id = user.id; ruling = ruling; held = held; instead = None }

abbrev pub by_profile : Option Profile → Option (List ℕ) → Level → List (List ℕ) → User → UserLine
by_profile None console needed groups user = line user None None
by_profile (Some p) console needed groups user =
    line user (Some (profile_ruling p user console groups needed)) (Some (held_from p user console groups))

abbrev pub line_of : Option Profile → Option (List ℕ) → Level → List (List ℕ) → User → UserLine
line_of decided console needed groups user = if user.revoked then line user (Some (Denied rule.Revoked)) None else
    by_profile decided console needed groups user

abbrev pub member_line : Option Profile → Option (List ℕ) → Level → UserWithGroups → UserLine
member_line decided console needed m = line_of decided console needed m.groups m.user

abbrev pub user_line : Policy → Option Profile → Option (List ℕ) → Level → User → UserLine
user_line p decided console needed user = line_of decided console needed (groups_of p.connects user.id) user

-- At a console of the board a command that no profile decides is decided by the console's authority.
abbrev pub or_authority : ConsoleRow → Need → UserLine → UserLine
or_authority c need line = record line { ruling = Some (unwrap_or line.ruling (console_ruling c.auth need)) }

-- A LOGON that no profile decides is allowed, and without a stored digest none is.
abbrev pub or_admitted : UserLine → UserLine
or_admitted line = record line { ruling = Some (unwrap_or line.ruling (Allowed rule.NoProfile)) }

abbrev pub without_digest : User → UserLine
without_digest user = record { id = user.id; ruling = None; held = None; instead = Some instead.NoDigest }

abbrev pub logon_line : User → UserLine → UserLine
logon_line user line = if is_none user.digest then without_digest user else or_admitted line

-- whether a ruling denies
abbrev pub is_denied : Option Ruling → Bool
is_denied None = false
is_denied (Some ruling) = not (is_allowed ruling)

-- A command that is done may leave out the line that it asks for. So two rulings are asked, and one of them is said:
-- the command's, if it denies, or says more than the line's: that it is undecided, or that it was warned;
abbrev pub doubt_of : Option Ruling → ℕ
doubt_of None = 2
doubt_of (Some ruling) = if is_warned (Some (rule_of ruling)) then 1 else 0

abbrev pub said_of : (command line : Option Ruling) → Said
said_of command line =
    if is_denied command then said.OfCommand else
    if is_denied line then said.Hidden else
    if nat_lt (doubt_of line) (doubt_of command) then said.OfCommand else said.OfLine

-- or the line's, if it says as much or more, or that the line is hidden. That a user cannot log on comes before both.
abbrev pub said_line : Said → (command line : UserLine) → UserLine
said_line said.OfCommand command line = command
said_line said.OfLine command line = line
said_line said.Hidden command line = record line { instead = Some instead.Hidden }

abbrev pub with_line : (command line : UserLine) → UserLine
with_line command line =
    if is_some command.instead then command else said_line (said_of command.ruling line.ruling) command line

-- whether an entry is for the console of this name alone
abbrev pub is_for : List ℕ → Entry → Bool
is_for name e = option_eq bytes_eq e.when (Some name)

-- the consoles that an entry of a profile that decides names, for which alone it is
abbrev pub is_named : Option Profile → ConsoleRow → Bool
is_named None c = false
is_named (Some p) c = list_any (is_for c.name) p.entries

abbrev pub is_named_by : (decided line : Option Profile) → ConsoleRow → Bool
is_named_by decided line c = is_named decided c || is_named line c

abbrev pub named : (decided line : Option Profile) → List ConsoleRow → List ConsoleRow
named decided line consoles = filter (is_named_by decided line) consoles

-- whether an entry for one console alone gives the level
abbrev pub is_raised : UserLine → Bool
is_raised line = option_map_or (λ (h : HeldLevel). is_some h.when) line.held false

-- by the profile that decides or, if none does, by an authority
abbrev pub by_decider : Option Profile → User → Option (List ℕ) → List (List ℕ) → Auth → Need → Ruling
by_decider None user console groups auth need = console_ruling auth need
by_decider (Some p) user console groups auth need = profile_ruling p user console groups need.level

-- a console where somebody is logged on, and an unattended one
abbrev pub on_at : List ℕ → ConsoleRow → ConsoleRow
on_at id c = record c { user = Some id }

abbrev pub nobody_at : ConsoleRow → ConsoleRow
nobody_at c = record c { user = None }

-- what is said of a command at a console where nobody is on, and whether the console acts for its own user
abbrev pub console_said : (name : List ℕ) → (own : Bool) → Said → (command line : Ruling) → ConsoleLine
console_said name own said.OfCommand command line = record { name = name; own = own; ruling = command; hidden = false }
console_said name own said.OfLine command line = record { name = name; own = own; ruling = line; hidden = false }
console_said name own said.Hidden command line = record { name = name; own = own; ruling = line; hidden = true }

abbrev pub console_by : (name : List ℕ) → (own : Bool) → (command : Ruling) → (line : Option Ruling) → ConsoleLine
console_by name own command None = console_said name own said.OfCommand command command
console_by name own command (Some line) = console_said name own (said_of (Some command) (Some line)) command line

abbrev pub console_line : State → Need → (line : Option Need) → ConsoleRow → ConsoleLine
console_line s need line c = console_by c.name (is_some (own_user s c)) (ruling s (nobody_at c) need)
    (option_map (ruling s (nobody_at c)) line)

abbrev pub console_lines : State → Need → (line : Option Need) → List ConsoleRow → List ConsoleLine
console_lines s need line consoles = map (console_line s need line) consoles

-- the console that is named, if one is named
abbrev pub name_of : AskedAt → Option (List ℕ)
name_of Everywhere = None
name_of (OnBoard c) = Some c.name
name_of (Named name) = Some name

abbrev pub command_at : Need → AskedAt → UserLine → UserLine
command_at need (OnBoard c) line = or_authority c need line
command_at need place line = line

-- Why a user cannot log on: at the console, or wherever it is.
abbrev pub no_logon_at : Policy → BoardRows → AskedAt → UserWithGroups → Option NoLogon
no_logon_at p b Everywhere m = nowhere m (map (door_of p) b.consoles)
no_logon_at p b (OnBoard c) m = no_logon (door_of p c) m
no_logon_at p b (Named name) m = None

-- That says more than a ruling, unless it denies anyway.
abbrev pub unless_on : Option NoLogon → UserLine → UserLine
unless_on why line =
    if is_denied line.ruling then line else record line { instead = option_map instead.NoLogon why }

-- That is asked of a command alone: a LOGON is ruled on itself, and for a level of access no logon counts.
abbrev pub no_logon_for : Wanted → Policy → BoardRows → AskedAt → UserWithGroups → Option NoLogon
no_logon_for (Command entered) p b place m = no_logon_at p b place m
no_logon_for (Logon name) p b place m = None
no_logon_for (Access class resource level) p b place m = None

abbrev pub decided_at : Wanted → AskedAt → Option NoLogon → User → UserLine → UserLine
decided_at (Command entered) place why user line = unless_on why (command_at entered.need place line)
decided_at (Logon name) place why user line = logon_line user line
decided_at (Access class resource level) place why user line = line

abbrev pub plain_at : Who → AskedAt → UserWithGroups → UserLine
plain_at who place m = decided_at who.wanted place (no_logon_for who.wanted who.room.policy who.room.board place m)
    m.user (member_line who.decided (name_of place) (level_of who.wanted) m)

-- with the line that a command asks for, if it asks for one
abbrev pub shown_at : Option Shows → AskedAt → UserWithGroups → UserLine → UserLine
shown_at None place m command = command
shown_at (Some shows) place m command =
    with_line command (command_at shows.need place (member_line shows.decided (name_of place) shows.need.level m))

abbrev pub said_at : Who → AskedAt → UserWithGroups → UserLine
said_at who place m = shown_at who.shows place m (plain_at who place m)

-- The lines of an answer: what is said of each user;
abbrev pub user_said : Who → UserWithGroups → UserLine
user_said who m = said_at who who.at m

abbrev pub users_of : Who → List UserLine
users_of who = map (user_said who) who.room.members

-- if no console is named, the lines of users at one console alone, console by console, if an entry for it raises the
-- level that they hold;
abbrev pub named_at : AskedAt → (decided line : Option Profile) → List ConsoleRow → List ConsoleRow
named_at Everywhere decided line consoles = named decided line consoles
named_at place decided line consoles = []

-- the profile that decides about the line, if one does
abbrev pub line_decider : Option Shows → Option Profile
line_decider shows = option_and_then (λ (l : Shows). l.decided) shows

abbrev pub named_of : Who → List ConsoleRow
named_of who = named_at who.at who.decided (line_decider who.shows) who.room.board.consoles

abbrev pub line_raised : Option Shows → ConsoleRow → UserWithGroups → Bool
line_raised None c m = false
line_raised (Some shows) c m = is_raised (member_line shows.decided (Some c.name) shows.need.level m)

abbrev pub is_raised_there : Who → ConsoleRow → UserWithGroups → Bool
is_raised_there who c m =
    is_raised (member_line who.decided (Some c.name) (level_of who.wanted) m) || line_raised who.shows c m

abbrev pub raised_there : Who → ConsoleRow → List UserLine
raised_there who c = map (said_at who (OnBoard c)) (filter (is_raised_there who c) who.room.members)

abbrev pub raised_of : Who → List UserLine
raised_of who = flat_map (raised_there who) (named_of who)

-- and, of a command alone, what is said of each console, or of the one of the board that is named.
abbrev pub consoles_at : State → Entered → AskedAt → Option (List ConsoleLine)
consoles_at s entered Everywhere = Some (console_lines s entered.need entered.line s.board.consoles)
consoles_at s entered (OnBoard c) = Some (console_lines s entered.need entered.line (c ∷ []))
consoles_at s entered (Named name) = None

abbrev pub consoles_in : State → Wanted → AskedAt → Option (List ConsoleLine)
consoles_in s (Command entered) place = consoles_at s entered place
consoles_in s (Logon name) place = None
consoles_in s (Access class resource level) place = None

abbrev pub consoles_of : Who → Option (List ConsoleLine)
consoles_of who = consoles_in (state_of who.room.policy who.room.board) who.wanted who.at

-- the line that a command asks for, and the profile that decides about it
abbrev pub line_of_wanted : Wanted → Option Need
line_of_wanted (Command entered) = entered.line
line_of_wanted (Logon name) = None
line_of_wanted (Access class resource level) = None

abbrev pub shows_by : Policy → Option Need → Option Shows
shows_by p line = option_map (λ need. record { need = need; decided = decider p Opercmds need.resource }) line

-- as a question of its own
abbrev pub line_wanted : Need → Wanted
line_wanted need = Command (record { need = need; unit = None; line = None })

-- the profiles of an answer are those that decide
pub record HasDecider (who : Who) : Type 0 where
  pub command : who.decided ≡ decider_of who.room.policy who.wanted
  pub line : who.shows ≡ shows_by who.room.policy (line_of_wanted who.wanted)

-- A question about a command or a LOGON needs a console of the board, one about a level of access takes any.
abbrev pub on_board : Option ConsoleRow → Result AskedAt Fault
on_board None = Err NoConsole
on_board (Some c) = Ok (OnBoard c)

abbrev pub asked_at : BoardRows → Wanted → Option (List ℕ) → Result AskedAt Fault
asked_at b (Logon name) console = on_board (console_at b name)
asked_at b (Command entered) None = Ok Everywhere
asked_at b (Command entered) (Some name) = on_board (console_at b name)
asked_at b (Access class resource level) None = Ok Everywhere
asked_at b (Access class resource level) (Some name) = Ok (Named name)

-- the answer, by the profile that decides
abbrev pub who_at : Policy → BoardRows → Wanted → AskedAt → Who
who_at p b w place = record {
  wanted = w;
  active = is_active p.active (class_of w);
  decided = decider_of p w;
  shows = shows_by p (line_of_wanted w);
  room = record { policy = p; members = members_of p; board = b };
  at = place;
}

abbrev pub who_placed : Policy → BoardRows → Wanted → Result AskedAt Fault → Result Who Fault
who_placed p b w (Ok place) = Ok (who_at p b w place)
who_placed p b w (Err fault) = Err fault

-- who may do what the question is about, at the console that is named, or everywhere
abbrev pub who_in : State → Wanted → Option (List ℕ) → Result Who Fault
who_in s w console = who_placed s.policy s.board w (asked_at s.board w console)
