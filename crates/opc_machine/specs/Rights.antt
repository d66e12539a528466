-- Who may administer, list and import.
use Rattle.std.specs.Prelude.{ℕ, Bool, false, ◌||◌, List, Option, Some, None, Result, Ok}
use Rattle.std.specs.Str.{bytes_eq}
use Rattle.opc_names.specs.Authority.{includes}
use Rattle.opc_names.specs.declared.level.Level.TheVariants.{Read}
use Rattle.opc_terms.specs.declared.fault.Fault.{Fault}
use Rattle.opc_terms.specs.declared.fault.Fault.TheVariants.{NotSpecial, NotOwner}
use Rattle.opc_policy_members.specs.declared.policy.Policy.{Policy}
use Rattle.opc_policy_members.specs.declared.profile.Profile.{Profile}
use Rattle.opc_terms.specs.declared.rule.Rule.{Rule}
use Rattle.opc_policy_members.specs.declared.user.User.{User}
use Rattle.opc_policy_members.specs.Held.{held}
use Rattle.opc_policy_members.specs.Members.{groups_of}
use Rattle.opc_policy_members.specs.Profiles.{profile_of}
use Rattle.opc_board.specs.declared.rows.ConsoleRow.{ConsoleRow}
use Rattle.opc_state.specs.State.{State}
use Rattle.opc_machine.specs.declared.operation.Operation.{Operation}
use Rattle.opc_machine.specs.declared.operation.Operation.TheVariants as operation
use Rattle.opc_machine.specs.declared.outcome.Refusal.{Refusal}
use Rattle.opc_machine.specs.Outcome.{◌>>=◌, refused}
use Rattle.opc_machine.specs.Rulings.{acting, logon_denial}
use Rattle.opc_machine.specs.Commands.{console_for, denial_fault}

-- the console of a request: it is there and online, and the logon rule does not deny it
abbrev pub unless_denied : Option Rule → Result (Unit {0}) Refusal
unless_denied None = Ok tt
unless_denied (Some rule) = refused (denial_fault rule) (Some rule)

abbrev pub console_asking : State → List ℕ → Result ConsoleRow Refusal
console_asking s name = do
  c ← console_for s name
  _ ← unless_denied (logon_denial s c)
  Ok c

-- of whoever acts there, if anybody does
abbrev pub is_special : Option User → Bool
is_special None = false
is_special (Some u) = u.special

-- SPECIAL and AUDITOR see all
abbrev pub sees_all : Option User → Bool
sees_all None = false
sees_all (Some u) = u.special || u.auditor

abbrev pub is_owner : Option User → Option Profile → Bool
is_owner None p = false
is_owner (Some u) None = false
is_owner (Some u) (Some p) = bytes_eq p.owner u.id

-- whether somebody owns the profile that an operation changes, if its owner may do so
abbrev pub owns_changed : Policy → Option User → Operation → Bool
owns_changed p user (operation.RAlter class pattern owner uacc warning) =
    is_owner user (profile_of p.profiles class pattern)
owns_changed p user (operation.RDelete class pattern) = is_owner user (profile_of p.profiles class pattern)
owns_changed p user (operation.Permit class pattern id level when) = is_owner user (profile_of p.profiles class pattern)
owns_changed p user (operation.PermitDelete class pattern id when) = is_owner user (profile_of p.profiles class pattern)
owns_changed p user other = false

-- The right to an operation: SPECIAL, or to own the profile that it changes (RACF guide).
abbrev pub may_change : State → ConsoleRow → Operation → Bool
may_change s c o = is_special (acting s c) || owns_changed s.policy (acting s c) o

-- the fault if the user lacks it
abbrev pub right_fault : Operation → Fault
right_fault (operation.RAlter class pattern owner uacc warning) = NotOwner
right_fault (operation.RDelete class pattern) = NotOwner
right_fault (operation.Permit class pattern id level when) = NotOwner
right_fault (operation.PermitDelete class pattern id when) = NotOwner
right_fault other = NotSpecial

-- A profile is shown to SPECIAL, to AUDITOR, to its owner, and to a user who holds READ in it. A warning gives nothing
-- here, and whether the class is active does not count.
abbrev pub holds_read : State → ConsoleRow → Option User → Profile → Bool
holds_read s c None p = false
holds_read s c (Some u) p = includes (held p u (Some c.name) (groups_of s.policy.connects u.id)) Read

abbrev pub profile_shown : State → ConsoleRow → Profile → Bool
profile_shown s c p = sees_all (acting s c) || is_owner (acting s c) (Some p) || holds_read s c (acting s c) p

-- The account is shown to SPECIAL and AUDITOR.
abbrev pub account_shown : State → ConsoleRow → Bool
account_shown s c = sees_all (acting s c)
