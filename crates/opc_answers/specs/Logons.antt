-- Who can act at a console: by a logon, or as the user for whom the console acts while unattended.
use Rattle.std.specs.Prelude.{Bool, List, Option, Some, None, ◌&&◌, if◌then◌else◌}
use Rattle.std.specs.Option.{is_none}
use Rattle.std.specs.List.{list_any}
use Rattle.std.specs.Str.{bytes_eq}
use Rattle.opc_names.specs.declared.class.Class.TheVariants.{Console}
use Rattle.opc_names.specs.declared.level.Level.TheVariants.{Read}
use Rattle.opc_terms.specs.declared.rule.Rule.TheVariants as rule
use Rattle.opc_policy_members.specs.declared.policy.Policy.{Policy}
use Rattle.opc_policy_members.specs.declared.profile.Profile.{Profile}
use Rattle.opc_policy.specs.declared.ruling.Ruling.{Ruling}
use Rattle.opc_policy.specs.declared.ruling.Ruling.TheVariants as ruling
use Rattle.opc_policy.specs.Rulings.{profile_ruling}
use Rattle.opc_board.specs.declared.rows.ConsoleRow.{ConsoleRow}
use Rattle.opc_machine.specs.Rulings.{is_auto}
use Rattle.opc_answers.specs.declared.logons.NoLogon.{NoLogon}
use Rattle.opc_answers.specs.declared.logons.NoLogon.TheVariants.{Denied, NoConsole, NoDigest}
use Rattle.opc_answers.specs.declared.members.UserWithGroups.{UserWithGroups}
use Rattle.opc_answers.specs.Deciding.{decider}

-- a console, and the profile that decides who may log on there
pub record Door : Type 0 where
  pub console : ConsoleRow
  pub profile : Option Profile

abbrev pub door_of : Policy → ConsoleRow → Door
door_of p c = record { console = c; profile = decider p Console c.name }

-- Why a user is not admitted there: the first of these that applies. If no profile decides, the user is admitted.
abbrev pub denied_by : Ruling → Option NoLogon
denied_by (ruling.Allowed rule) = None
denied_by (ruling.Denied rule) = Some (Denied rule)

abbrev pub by_profile : Option Profile → ConsoleRow → UserWithGroups → Option NoLogon
by_profile None c m = None
by_profile (Some p) c m = denied_by (profile_ruling p m.user (Some c.name) m.groups Read)

abbrev pub refusal : Door → UserWithGroups → Option NoLogon
refusal d m = if is_none m.user.digest then Some NoDigest else
    (if m.user.revoked then Some (Denied rule.Revoked) else by_profile d.profile d.console m)

-- whether the console acts for this user where nobody is on
abbrev pub acts_for : ConsoleRow → UserWithGroups → Bool
acts_for c m = is_auto c.mode && bytes_eq c.name m.user.id

-- why a user cannot log on there
abbrev pub no_logon : Door → UserWithGroups → Option NoLogon
no_logon d m = if acts_for d.console m then None else refusal d m

abbrev pub gets_on : UserWithGroups → Door → Bool
gets_on m d = is_none (no_logon d m)

-- and that a user can log on at none of some consoles
abbrev pub nowhere : UserWithGroups → List Door → Option NoLogon
nowhere m doors = if list_any (gets_on m) doors then None else Some NoConsole
