-- Worked cases of administration, listings and imports, computed: a small state, and requests to it.
use Rattle.std.proofs.Common.{
  ◌≡◌,
  ℕ,
  Bool,
  true,
  false,
  List,
  [],
  ◌∷◌,
  Option,
  Some,
  None,
  Ok,
  Err,
  option_map,
  map,
  refl,
  codes,
}
use Rattle.opc_names.specs.declared.auth.Auth.{Auth}
use Rattle.opc_names.specs.declared.auth.Auth.TheVariants as auth
use Rattle.opc_names.specs.declared.class.Class.TheVariants.{Console, Opercmds}
use Rattle.opc_names.specs.declared.level.Level.{Level}
use Rattle.opc_names.specs.declared.level.Level.TheVariants as level
use Rattle.opc_policy_members.specs.declared.connect.Connect.{Connect}
use Rattle.opc_policy_members.specs.declared.entry.Entry.{Entry}
use Rattle.opc_terms.specs.declared.fault.Fault.{Fault}
use Rattle.opc_terms.specs.declared.fault.Fault.TheVariants as fault
use Rattle.opc_terms.specs.declared.mode.Mode.{Mode}
use Rattle.opc_terms.specs.declared.mode.Mode.TheVariants.{Optional, Required}
use Rattle.opc_policy_members.specs.declared.policy.Policy.{Policy}
use Rattle.opc_policy_members.specs.declared.profile.Profile.{Profile}
use Rattle.opc_policy_members.specs.declared.row.Row.{Row}
use Rattle.opc_policy_members.specs.declared.row.Row.TheVariants as row
use Rattle.opc_terms.specs.declared.rule.Rule.TheVariants as rule
use Rattle.opc_policy_members.specs.declared.user.User.{User}
use Rattle.opc_board.specs.declared.line.Line.{Line}
use Rattle.opc_board.specs.declared.rows.ConsoleRow.{ConsoleRow}
use Rattle.opc_state.specs.declared.account.AccountRow.{AccountRow}
use Rattle.opc_state.specs.State.{State, empty}
use Rattle.opc_machine.specs.Inputs as input
use Rattle.opc_machine.specs.Machine.{first_refusal, outcome}
use Rattle.opc_machine.specs.declared.operation.Operation.{Operation}
use Rattle.opc_machine.specs.declared.operation.Operation.TheVariants as operation
use Rattle.opc_machine.specs.declared.outcome.Refusal.{Refusal}
use Rattle.opc_machine.specs.Outcome.{StateOutcome}

-- the state, also for other worked cases

abbrev pub user : List ℕ → Bool → Bool → Bool → User
user id special auditor revoked = record { id = id; special = special; auditor = auditor; revoked = revoked; digest = None; restricted = false }

abbrev pub plain : List ℕ → User
plain id = user id false false false

-- ANNA and CARL are logged on, and OLD, who is revoked; DORA is connected to a group, EMIL is in an access list, FRED
-- owns a profile, and GUS is not in use
abbrev pub users : List User
users =
    plain (codes "ANNA") ∷ plain (codes "CARL") ∷ plain (codes "DORA") ∷ plain (codes "EMIL") ∷ plain (codes "FRED") ∷ plain (codes "GUS")
    ∷ user (codes "OLD") false false true ∷ user (codes "SECADM") true false false ∷ []

abbrev pub connect : List ℕ → List ℕ → Connect
connect u group = record { user = u; group = group }

abbrev pub entry : List ℕ → Level → Entry
entry id level = record { id = id; when = None; level = level }

abbrev pub profile : List ℕ → List ℕ → Level → Bool → List Entry → Profile
profile pattern owner uacc warning entries = record { class = Opercmds; pattern = pattern; owner = owner; uacc = uacc; warning = warning; entries = entries }

abbrev pub of_carl : Profile
of_carl = profile (codes "A.B") (codes "CARL") level.None false (entry (codes "EMIL") level.Read ∷ [])

abbrev pub of_fred : Profile
of_fred = profile (codes "A.*") (codes "FRED") level.None true []

abbrev pub of_all : Profile
of_all = profile (codes "**") (codes "SECADM") level.Read false []

abbrev pub policy : Policy
policy = record {
  users = users;
  groups = codes "NIGHT" ∷ codes "OPS" ∷ [];
  connects = connect (codes "DORA") (codes "OPS") ∷ [];
  profiles = of_carl ∷ of_fred ∷ of_all ∷ [];
  active = record { console = true; opercmds = true };
}

abbrev pub console : List ℕ → Auth → Mode → Bool → Option (List ℕ) → ConsoleRow
console name auth mode online u = record { name = name; auth = auth; mode = mode; online = online; user = u; monitor = false }

-- C2 is the one online console with AUTH MASTER
abbrev pub consoles : List ConsoleRow
consoles =
    console (codes "C1") auth.Sys Optional true (Some (codes "ANNA"))
    ∷ console (codes "C2") auth.Master Optional true (Some (codes "SECADM"))
    ∷ console (codes "C3") auth.All Required true None
    ∷ console (codes "C4") auth.Info Optional false None
    ∷ console (codes "C5") auth.Sys Optional true (Some (codes "CARL"))
    ∷ console (codes "C6") auth.Sys Optional true (Some (codes "OLD"))
    ∷ console (codes "C7") auth.Sys Optional true None ∷ []

abbrev pub refused_row : ℕ → List ℕ → List ℕ → List ℕ → AccountRow
refused_row moment name code text = record { moment = moment; console = name; user = codes "-"; code = code; rule = text }

abbrev pub day : List Row
day = row.Group (codes "DAY") ∷ []

abbrev pub base : State
base = record {
  policy = policy;
  board = record empty.board { consoles = consoles };
  account = refused_row 101 (codes "C3") (codes "E12") (codes "LOGONREQUIRED")
      ∷ refused_row 102 (codes "C3") (codes "E14") (codes "-") ∷ refused_row 103 (codes "C3") (codes "E16") (codes "-")
      ∷ [];
  batches = record { number = 7; rows = day } ∷ [];
}

-- the result of it

abbrev pub plainly : Fault → Option Refusal
plainly f = Some (record { fault = f; rule = None })

abbrev pub refused_at : List ℕ → Operation → Option Refusal
refused_at name o = first_refusal base (input.Admin name o)

abbrev pub state_in : StateOutcome → Option State
state_in (Ok effect) = Some effect.state
state_in (Err refusal) = None

abbrev pub texts_in : StateOutcome → Option (List (List ℕ))
texts_in (Ok effect) = Some (map (λ (l : Line). l.text) effect.lines)
texts_in (Err refusal) = None

-- by SECADM at C2
abbrev pub refusal : Operation → Option Refusal
refusal o = refused_at (codes "C2") o

abbrev pub after : Operation → Option State
after o = state_in (outcome base (input.Admin (codes "C2") o))

abbrev pub users_after : Operation → Option (List User)
users_after o = option_map (λ (s : State). s.policy.users) (after o)

abbrev pub profiles_after : Operation → Option (List Profile)
profiles_after o = option_map (λ (s : State). s.policy.profiles) (after o)

abbrev connects_after : Operation → Option (List Connect)
connects_after o = option_map (λ (s : State). s.policy.connects) (after o)

abbrev consoles_after : Operation → Option (List ConsoleRow)
consoles_after o = option_map (λ (s : State). s.board.consoles) (after o)

-- who may make a request

no_such_console : refused_at (codes "C9") (operation.AddGroup (codes "DAY")) ≡ plainly fault.NoConsole
no_such_console = refl

console_offline : refused_at (codes "C4") (operation.AddGroup (codes "DAY")) ≡ plainly fault.ConsoleOffline
console_offline = refl

logon_required : refused_at (codes "C3") (operation.AddGroup (codes "DAY")) ≡ Some (record { fault = fault.LogonRequired; rule = Some rule.LogonRequired })
logon_required = refl

revoked : refused_at (codes "C6") (operation.AddGroup (codes "DAY")) ≡ Some (record { fault = fault.Revoked; rule = Some rule.Revoked })
revoked = refl

not_special : refused_at (codes "C1") (operation.AddGroup (codes "DAY")) ≡ plainly fault.NotSpecial
not_special = refl

nobody_is_not_special : refused_at (codes "C7") (operation.AddGroup (codes "DAY")) ≡ plainly fault.NotSpecial
nobody_is_not_special = refl

not_owner : refused_at (codes "C1") (operation.RDelete Opercmds (codes "A.B")) ≡ plainly fault.NotOwner
not_owner = refl

-- and the same of a profile that is not there
not_owner_of_none : refused_at (codes "C1") (operation.RDelete Opercmds (codes "C")) ≡ plainly fault.NotOwner
not_owner_of_none = refl

nobody_is_not_owner : refused_at (codes "C7") (operation.RDelete Opercmds (codes "A.B")) ≡ plainly fault.NotOwner
nobody_is_not_owner = refl

owner_permits : refused_at (codes "C5") (operation.Permit Opercmds (codes "A.B") (codes "CARL") level.Update None) ≡ None
owner_permits = refl

owner_defines_nothing : refused_at (codes "C5") (operation.RDefine Opercmds (codes "C") (codes "CARL") level.None false) ≡ plainly fault.NotSpecial
owner_defines_nothing = refl

-- users

pub adds_user : users_after (operation.AddUser (codes "BERT") true false None false)
    ≡ Some (plain (codes "ANNA") ∷ user (codes "BERT") true false false ∷ plain (codes "CARL") ∷ plain (codes "DORA")
    ∷ plain (codes "EMIL") ∷ plain (codes "FRED") ∷ plain (codes "GUS") ∷ user (codes "OLD") false false true
    ∷ user (codes "SECADM") true false false ∷ [])
adds_user = refl

user_exists : refusal (operation.AddUser (codes "ANNA") false false None false) ≡ plainly (fault.Exists (codes "ANNA"))
user_exists = refl

group_has_the_name : refusal (operation.AddUser (codes "OPS") false false None false) ≡ plainly (fault.Exists (codes "OPS"))
group_has_the_name = refl

alters_user : users_after (operation.AltUser (codes "ANNA") false true true None false)
    ≡ Some (user (codes "ANNA") false true true ∷ plain (codes "CARL") ∷ plain (codes "DORA") ∷ plain (codes "EMIL")
    ∷ plain (codes "FRED") ∷ plain (codes "GUS") ∷ user (codes "OLD") false false true
    ∷ user (codes "SECADM") true false false ∷ [])
alters_user = refl

no_user_to_alter : refusal (operation.AltUser (codes "BERT") false false false None false) ≡ plainly (fault.Missing (codes "BERT"))
no_user_to_alter = refl

deletes_user : users_after (operation.DelUser (codes "GUS"))
    ≡ Some (plain (codes "ANNA") ∷ plain (codes "CARL") ∷ plain (codes "DORA") ∷ plain (codes "EMIL")
    ∷ plain (codes "FRED") ∷ user (codes "OLD") false false true ∷ user (codes "SECADM") true false false ∷ [])
deletes_user = refl

no_user_to_delete : refusal (operation.DelUser (codes "BERT")) ≡ plainly (fault.Missing (codes "BERT"))
no_user_to_delete = refl

connected_user : refusal (operation.DelUser (codes "DORA")) ≡ plainly (fault.InUse (codes "DORA"))
connected_user = refl

permitted_user : refusal (operation.DelUser (codes "EMIL")) ≡ plainly (fault.InUse (codes "EMIL"))
permitted_user = refl

owning_user : refusal (operation.DelUser (codes "FRED")) ≡ plainly (fault.InUse (codes "FRED"))
owning_user = refl

user_who_is_on : refusal (operation.DelUser (codes "ANNA")) ≡ plainly (fault.InUse (codes "ANNA"))
user_who_is_on = refl

-- groups and connects

adds_group : option_map (λ (s : State). s.policy.groups) (after (operation.AddGroup (codes "DAY"))) ≡ Some (codes "DAY" ∷ codes "NIGHT" ∷ codes "OPS" ∷ [])
adds_group = refl

group_exists : refusal (operation.AddGroup (codes "OPS")) ≡ plainly (fault.Exists (codes "OPS"))
group_exists = refl

user_has_the_name : refusal (operation.AddGroup (codes "ANNA")) ≡ plainly (fault.Exists (codes "ANNA"))
user_has_the_name = refl

connects_user : connects_after (operation.Connect (codes "ANNA") (codes "OPS")) ≡ Some
    (connect (codes "ANNA") (codes "OPS") ∷ connect (codes "DORA") (codes "OPS") ∷ [])
connects_user = refl

no_user_to_connect : refusal (operation.Connect (codes "BERT") (codes "LATE")) ≡ plainly (fault.Missing (codes "BERT"))
no_user_to_connect = refl

no_group_to_connect : refusal (operation.Connect (codes "ANNA") (codes "LATE")) ≡ plainly (fault.Missing (codes "LATE"))
no_group_to_connect = refl

connected_already : refusal (operation.Connect (codes "DORA") (codes "OPS")) ≡ plainly (fault.Exists (codes "OPS"))
connected_already = refl

removes_connect : connects_after (operation.Remove (codes "DORA") (codes "OPS")) ≡ Some []
removes_connect = refl

no_user_to_remove : refusal (operation.Remove (codes "BERT") (codes "LATE")) ≡ plainly (fault.Missing (codes "BERT"))
no_user_to_remove = refl

no_group_to_remove_from : refusal (operation.Remove (codes "DORA") (codes "LATE")) ≡ plainly (fault.Missing (codes "LATE"))
no_group_to_remove_from = refl

not_connected : refusal (operation.Remove (codes "DORA") (codes "NIGHT")) ≡ plainly (fault.Missing (codes "NIGHT"))
not_connected = refl

-- profiles and access lists

defines_profile : profiles_after (operation.RDefine Opercmds (codes "A.%") (codes "ANNA") level.None false)
    ≡ Some (of_carl ∷ profile (codes "A.%") (codes "ANNA") level.None false [] ∷ of_fred ∷ of_all ∷ [])
defines_profile = refl

profile_exists : refusal (operation.RDefine Opercmds (codes "A.B") (codes "BERT") level.None false) ≡ plainly (fault.Exists (codes "A.B"))
profile_exists = refl

no_owner_to_define : refusal (operation.RDefine Opercmds (codes "A.%") (codes "BERT") level.None false) ≡ plainly (fault.Missing (codes "BERT"))
no_owner_to_define = refl

-- it keeps its access list
alters_profile : profiles_after (operation.RAlter Opercmds (codes "A.B") (codes "ANNA") level.Read true)
    ≡ Some (profile (codes "A.B") (codes "ANNA") level.Read true (entry (codes "EMIL") level.Read ∷ []) ∷ of_fred ∷ of_all ∷ [])
alters_profile = refl

no_profile_to_alter : refusal (operation.RAlter Console (codes "A.B") (codes "BERT") level.Read true) ≡ plainly (fault.Missing (codes "A.B"))
no_profile_to_alter = refl

no_owner_to_alter : refusal (operation.RAlter Opercmds (codes "A.B") (codes "BERT") level.Read true) ≡ plainly (fault.Missing (codes "BERT"))
no_owner_to_alter = refl

deletes_profile : profiles_after (operation.RDelete Opercmds (codes "A.B")) ≡ Some (of_fred ∷ of_all ∷ [])
deletes_profile = refl

no_profile_to_delete : refusal (operation.RDelete Console (codes "A.B")) ≡ plainly (fault.Missing (codes "A.B"))
no_profile_to_delete = refl
