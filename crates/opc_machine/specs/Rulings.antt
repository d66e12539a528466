-- Who acts at a console, how a command's need is ruled on, and what may be shown.
use Rattle.std.specs.Prelude.{Bool, true, false, ◌&&◌, if◌then◌else◌, ℕ, List, [], Option, Some, None, codes}
use Rattle.std.specs.Option.{is_none, option_and_then, option_or}
use Rattle.opc_names.specs.declared.class.Class.TheVariants.{Opercmds, Console}
use Rattle.opc_names.specs.declared.group.Group.TheVariants.{Info}
use Rattle.opc_names.specs.declared.level.Level.TheVariants.{Read}
use Rattle.opc_terms.specs.declared.mode.Mode.{Mode}
use Rattle.opc_terms.specs.declared.mode.Mode.TheVariants.{Required, Optional, Auto}
use Rattle.opc_terms.specs.declared.need.Need.{Need}
use Rattle.opc_terms.specs.declared.rule.Rule.{Rule}
use Rattle.opc_terms.specs.declared.rule.Rule.TheVariants as rule
use Rattle.opc_policy.specs.declared.ruling.Ruling.{Ruling}
use Rattle.opc_policy.specs.declared.ruling.Ruling.TheVariants.{Allowed, Denied}
use Rattle.opc_policy_members.specs.declared.user.User.{User}
use Rattle.opc_policy_members.specs.Members.{user_of, groups_of}
use Rattle.opc_policy.specs.Rulings.{verdict, verdict_rule, by_verdict, ruling as policy_ruling}
use Rattle.opc_policy_members.specs.Taken.{has_user, is_active}
use Rattle.opc_table.specs.Table.{qualified}
use Rattle.opc_board.specs.declared.line.Item.{Item}
use Rattle.opc_board.specs.declared.line.Item.TheVariants as item
use Rattle.opc_board.specs.declared.line.Line.{Line}
use Rattle.opc_board.specs.declared.rows.ConsoleRow.{ConsoleRow}
use Rattle.opc_state.specs.State.{State, deciding_in}

abbrev pub is_auto : Mode → Bool
is_auto Auto = true
is_auto Optional = false
is_auto Required = false

-- a console's own user: the one whose id is its name, if its mode is AUTO and such a user is stored
abbrev pub own_user : State → ConsoleRow → Option (List ℕ)
own_user s c = if is_auto c.mode && has_user s.policy c.name then Some c.name else None

-- The user for whom a console acts: the one who is logged on; if nobody is, the console's own (MVS Planning:
-- Operations, LOGON(AUTO)).
abbrev pub acting_user : State → ConsoleRow → Option (List ℕ)
acting_user s c = option_or c.user (own_user s c)

abbrev pub acting : State → ConsoleRow → Option User
acting s c = option_and_then (user_of s.policy.users) (acting_user s c)

-- the connect groups of the acting user
abbrev pub groups_acting : State → Option User → List (List ℕ)
groups_acting s None = []
groups_acting s (Some u) = groups_of s.policy.connects u.id

abbrev pub is_required : Mode → Bool
is_required Required = true
is_required Optional = false
is_required Auto = false

abbrev pub is_revoked : Option User → Bool
is_revoked (Some u) = u.revoked
is_revoked None = false

-- why the logon rule denies all requests at a console, if it does: somebody must be logged on, and the acting user must
-- not be revoked
abbrev pub logon_denial : State → ConsoleRow → Option Rule
logon_denial s c =
    if is_required c.mode && is_none c.user then Some rule.LogonRequired else
    (if is_revoked (acting s c) then Some rule.Revoked else None)

-- by the profile that decides in class OPERCMDS, or, if nobody acts or none decides, by the console's AUTH
abbrev pub access_ruling : State → ConsoleRow → Option User → Need → Ruling
access_ruling s c user need = policy_ruling (is_active s.policy.active Opercmds)
    (deciding_in s.policy Opercmds need.resource) user (Some c.name) (groups_acting s user) c.auth need

abbrev pub denied_or : Option Rule → Ruling → Ruling
denied_or (Some rule) ruling = Denied rule
denied_or None ruling = ruling

-- The ruling on what a command needs at a console, by the first of these that applies: the logon rule, that the user
-- is revoked, a profile, the console's AUTH (MVS Planning: Operations, and the RACF guide).
abbrev pub ruling : State → ConsoleRow → Need → Ruling
ruling s c need = denied_or (logon_denial s c) (access_ruling s c (acting s c) need)

-- The ruling on a user who logs on at a console: the user must not be revoked, and needs READ on the console's name in
-- class CONSOLE. If that is undecided, the user is admitted.
abbrev pub console_access : State → ConsoleRow → User → Ruling
console_access s c user =
    by_verdict (verdict (is_active s.policy.active Console) (deciding_in s.policy Console c.name) user (Some c.name)
    (groups_of s.policy.connects user.id) Read)
    (verdict_rule (is_active s.policy.active Console) (deciding_in s.policy Console c.name) user (Some c.name)
    (groups_of s.policy.connects user.id) Read)
    (Allowed rule.NoProfile)

abbrev pub logon_ruling : State → ConsoleRow → User → Ruling
logon_ruling s c user = if user.revoked then Denied rule.Revoked else console_access s c user

-- what showing a line needs: nothing if it is plain, and READ if it is about a unit or a console
abbrev pub to_show : List ℕ → List ℕ → Option Need
to_show words name = Some (record { resource = qualified words name; level = Read; group = Info })

abbrev pub need_to_show : Item → Option Need
need_to_show item.Plain = None
need_to_show (item.Unit name) = to_show (codes "MVS.DISPLAY.JOB") name
need_to_show (item.Console name) = to_show (codes "MVS.DISPLAY.CN") name

abbrev pub is_allowed : Ruling → Bool
is_allowed (Allowed rule) = true
is_allowed (Denied rule) = false

abbrev pub passes : State → ConsoleRow → Option Need → Bool
passes s c None = true
passes s c (Some need) = is_allowed (ruling s c need)

-- A line may be shown at a console if what that needs is allowed there.
abbrev pub shown : State → ConsoleRow → Line → Bool
shown s c line = passes s c (need_to_show line.item)
