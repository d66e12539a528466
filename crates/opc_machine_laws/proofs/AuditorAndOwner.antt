-- Worked cases of AUDITOR and of owners, computed: an auditor sees everything and changes nothing; an owner may change the profile and nothing else; and
-- listings do not depend on whether the class is active.
use Rattle.std.proofs.Common.{◌≡◌, ℕ, Bool, true, false, List, [], ◌∷◌, Option, Some, None, refl, codes}
use Rattle.std.specs.Fmt.{digits}
use Rattle.opc_names.specs.declared.auth.Auth.TheVariants as auth
use Rattle.opc_names.specs.declared.class.Class.TheVariants.{Console, Opercmds}
use Rattle.opc_names.specs.declared.level.Level.TheVariants as level
use Rattle.opc_terms.specs.declared.fault.Fault.TheVariants as fault
use Rattle.opc_terms.specs.declared.mode.Mode.TheVariants.{Optional}
use Rattle.opc_policy_members.specs.Held.{held}
use Rattle.opc_state.specs.State.{State, empty}
use Rattle.opc_machine.specs.declared.operation.Operation.{Operation}
use Rattle.opc_machine.specs.declared.operation.Operation.TheVariants as operation
use Rattle.opc_machine.specs.Inputs as input
use Rattle.opc_machine.specs.Machine.{first_refusal, outcome}
use Rattle.opc_machine.specs.declared.outcome.Refusal.{Refusal}
use Rattle.opc_machine_laws.proofs.Worked.{base, console, day, plain, plainly, policy, texts_in, user}

-- AUDIT, an auditor, is logged on at C1, SECADM at C2, CARL at C5
abbrev with_opercmds : Bool → State
with_opercmds active = record base {
  policy = record policy {
    users = plain (codes "ANNA") ∷ user (codes "AUDIT") false true false ∷ plain (codes "CARL") ∷ plain (codes "DORA")
        ∷ plain (codes "EMIL") ∷ plain (codes "FRED") ∷ plain (codes "GUS") ∷ user (codes "SECADM") true false false
        ∷ [];
    active = record { console = true; opercmds = active };
  };
  board = record empty.board {
    consoles = console (codes "C1") auth.Sys Optional true (Some (codes "AUDIT"))
        ∷ console (codes "C2") auth.Master Optional true (Some (codes "SECADM"))
        ∷ console (codes "C5") auth.Sys Optional true (Some (codes "CARL")) ∷ [];
  };
}

abbrev listed_at : List ℕ → Bool → Option (List (List ℕ))
listed_at name active = texts_in (outcome (with_opercmds active) (input.ListProfiles name Opercmds))

abbrev all_lines : List (List ℕ)
all_lines = codes "A.B UACC NONE OWNER CARL" ∷ codes "A.* UACC NONE OWNER FRED WARNING" ∷ codes "** UACC READ OWNER SECADM" ∷ []

-- what is listed, of an active class and of one that is not

auditor_sees_all_profiles : listed_at (codes "C1") true ≡ Some all_lines
auditor_sees_all_profiles = refl

auditor_sees_inactive_class : listed_at (codes "C1") false ≡ Some all_lines
auditor_sees_inactive_class = refl

special_sees_inactive_class : listed_at (codes "C2") false ≡ Some all_lines
special_sees_inactive_class = refl

owner_and_reader_see_theirs : listed_at (codes "C5") true ≡ Some (codes "A.B UACC NONE OWNER CARL" ∷ codes "** UACC READ OWNER SECADM" ∷ [])
unfolding held
owner_and_reader_see_theirs = refl

they_do_where_it_is_inactive : listed_at (codes "C5") false ≡ Some (codes "A.B UACC NONE OWNER CARL" ∷ codes "** UACC READ OWNER SECADM" ∷ [])
unfolding held
they_do_where_it_is_inactive = refl

nothing_of_the_other_class : texts_in (outcome (with_opercmds true) (input.ListProfiles (codes "C1") Console)) ≡ Some []
nothing_of_the_other_class = refl

auditor_sees_account : texts_in (outcome (with_opercmds true) (input.ListAccount (codes "C1") 1 1)) ≡ Some (codes "1 101 C3 - E12 LOGONREQUIRED" ∷ [])
unfolding digits
auditor_sees_account = refl

owner_sees_no_account : first_refusal (with_opercmds true) (input.ListAccount (codes "C5") 1 1) ≡ plainly fault.NotSpecial
owner_sees_no_account = refl

-- what may be changed

abbrev refused_to : List ℕ → Operation → Option Refusal
refused_to name o = first_refusal (with_opercmds true) (input.Admin name o)

-- an auditor changes nothing

auditor_adds_no_user : refused_to (codes "C1") (operation.AddUser (codes "BERT") false false None false) ≡ plainly fault.NotSpecial
auditor_adds_no_user = refl

auditor_alters_no_user : refused_to (codes "C1") (operation.AltUser (codes "ANNA") true false false None false) ≡ plainly fault.NotSpecial
auditor_alters_no_user = refl

auditor_deletes_no_user : refused_to (codes "C1") (operation.DelUser (codes "GUS")) ≡ plainly fault.NotSpecial
auditor_deletes_no_user = refl

auditor_adds_no_group : refused_to (codes "C1") (operation.AddGroup (codes "DAY")) ≡ plainly fault.NotSpecial
auditor_adds_no_group = refl

auditor_connects_nobody : refused_to (codes "C1") (operation.Connect (codes "ANNA") (codes "OPS")) ≡ plainly fault.NotSpecial
auditor_connects_nobody = refl

auditor_removes_nobody : refused_to (codes "C1") (operation.Remove (codes "DORA") (codes "OPS")) ≡ plainly fault.NotSpecial
auditor_removes_nobody = refl

auditor_defines_nothing : refused_to (codes "C1") (operation.RDefine Opercmds (codes "C") (codes "AUDIT") level.None false) ≡ plainly fault.NotSpecial
auditor_defines_nothing = refl

auditor_alters_nothing : refused_to (codes "C1") (operation.RAlter Opercmds (codes "A.B") (codes "AUDIT") level.Read false) ≡ plainly fault.NotOwner
auditor_alters_nothing = refl

auditor_deletes_nothing : refused_to (codes "C1") (operation.RDelete Opercmds (codes "A.B")) ≡ plainly fault.NotOwner
auditor_deletes_nothing = refl

auditor_permits_nothing : refused_to (codes "C1") (operation.Permit Opercmds (codes "A.B") (codes "AUDIT") level.Update None) ≡ plainly fault.NotOwner
auditor_permits_nothing = refl

auditor_takes_no_permission : refused_to (codes "C1") (operation.PermitDelete Opercmds (codes "A.B") (codes "EMIL") None) ≡ plainly fault.NotOwner
auditor_takes_no_permission = refl

auditor_activates_nothing : refused_to (codes "C1") (operation.ClassActive Opercmds false) ≡ plainly fault.NotSpecial
auditor_activates_nothing = refl

auditor_defines_no_console : refused_to (codes "C1") (operation.DefineConsole (codes "C1") auth.Master Optional) ≡ plainly fault.NotSpecial
auditor_defines_no_console = refl

auditor_imports_nothing : first_refusal (with_opercmds true) (input.Import (codes "C1") 8 day) ≡ plainly fault.NotSpecial
auditor_imports_nothing = refl

-- an owner changes the profile,

owner_alters : refused_to (codes "C5") (operation.RAlter Opercmds (codes "A.B") (codes "ANNA") level.Read false) ≡ None
owner_alters = refl

owner_deletes : refused_to (codes "C5") (operation.RDelete Opercmds (codes "A.B")) ≡ None
owner_deletes = refl

owner_permits : refused_to (codes "C5") (operation.Permit Opercmds (codes "A.B") (codes "OPS") level.Update (Some (codes "C1"))) ≡ None
owner_permits = refl

owner_takes_permission : refused_to (codes "C5") (operation.PermitDelete Opercmds (codes "A.B") (codes "EMIL") None) ≡ None
owner_takes_permission = refl

-- no other one,

owner_alters_no_other : refused_to (codes "C5") (operation.RAlter Opercmds (codes "**") (codes "CARL") level.Read false) ≡ plainly fault.NotOwner
owner_alters_no_other = refl

owner_permits_in_no_other : refused_to (codes "C5") (operation.Permit Opercmds (codes "A.*") (codes "CARL") level.Update None) ≡ plainly fault.NotOwner
owner_permits_in_no_other = refl

-- not one of its pattern in the other class,
owner_deletes_none_of_the_other_class : refused_to (codes "C5") (operation.RDelete Console (codes "A.B")) ≡ plainly fault.NotOwner
owner_deletes_none_of_the_other_class = refl

-- and nothing else
owner_alters_no_user : refused_to (codes "C5") (operation.AltUser (codes "CARL") true false false None false) ≡ plainly fault.NotSpecial
owner_alters_no_user = refl

owner_adds_no_user : refused_to (codes "C5") (operation.AddUser (codes "BERT") false false None false) ≡ plainly fault.NotSpecial
owner_adds_no_user = refl

owner_deletes_no_user : refused_to (codes "C5") (operation.DelUser (codes "GUS")) ≡ plainly fault.NotSpecial
owner_deletes_no_user = refl

owner_adds_no_group : refused_to (codes "C5") (operation.AddGroup (codes "DAY")) ≡ plainly fault.NotSpecial
owner_adds_no_group = refl

owner_connects_nobody : refused_to (codes "C5") (operation.Connect (codes "CARL") (codes "OPS")) ≡ plainly fault.NotSpecial
owner_connects_nobody = refl

owner_removes_nobody : refused_to (codes "C5") (operation.Remove (codes "DORA") (codes "OPS")) ≡ plainly fault.NotSpecial
owner_removes_nobody = refl

owner_defines_no_console : refused_to (codes "C5") (operation.DefineConsole (codes "C5") auth.Master Optional) ≡ plainly fault.NotSpecial
owner_defines_no_console = refl

owner_activates_nothing : refused_to (codes "C5") (operation.ClassActive Opercmds false) ≡ plainly fault.NotSpecial
owner_activates_nothing = refl

owner_imports_nothing : first_refusal (with_opercmds true) (input.Import (codes "C5") 8 day) ≡ plainly fault.NotSpecial
owner_imports_nothing = refl
