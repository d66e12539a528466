-- Worked cases of access lists, with entries for one console and RESTRICTED users, computed.
use Rattle.std.proofs.Common.{◌≡◌, ℕ, Bool, true, false, List, [], ◌∷◌, Option, Some, None, refl, codes}
use Rattle.opc_names.specs.declared.class.Class.TheVariants.{Opercmds}
use Rattle.opc_names.specs.declared.level.Level.{Level}
use Rattle.opc_names.specs.declared.level.Level.TheVariants as level
use Rattle.opc_policy_members.specs.declared.entry.Entry.{Entry}
use Rattle.opc_terms.specs.declared.fault.Fault.TheVariants as fault
use Rattle.opc_policy_members.specs.declared.user.User.{User}
use Rattle.opc_policy_members.specs.Held.{held}
use Rattle.opc_state.specs.State.{State}
use Rattle.opc_machine.specs.Inputs as input
use Rattle.opc_machine.specs.Machine.{first_refusal}
use Rattle.opc_machine.specs.declared.operation.Operation.{Operation}
use Rattle.opc_machine.specs.declared.operation.Operation.TheVariants as operation
use Rattle.opc_machine.specs.declared.outcome.Refusal.{Refusal}
use Rattle.opc_machine_laws.proofs.Worked.{base, entry, of_all, of_fred, plainly, profile, profiles_after, refusal}

abbrev at : List ℕ → List ℕ → Level → Entry
at name id level = record { id = id; when = Some name; level = level }

-- operations

permits_user : profiles_after (operation.Permit Opercmds (codes "A.B") (codes "ANNA") level.Update None)
    ≡ Some (profile (codes "A.B") (codes "CARL") level.None false
    (entry (codes "ANNA") level.Update ∷ entry (codes "EMIL") level.Read ∷ []) ∷ of_fred ∷ of_all ∷ [])
permits_user = refl

permits_everyone : refusal (operation.Permit Opercmds (codes "A.B") (codes "*") level.Update None) ≡ None
permits_everyone = refl

permits_group : refusal (operation.Permit Opercmds (codes "A.B") (codes "OPS") level.Update None) ≡ None
permits_group = refl

no_profile_to_permit : refusal (operation.Permit Opercmds (codes "C") (codes "BERT") level.Update None) ≡ plainly (fault.Missing (codes "C"))
no_profile_to_permit = refl

nobody_to_permit : refusal (operation.Permit Opercmds (codes "A.B") (codes "BERT") level.Update None) ≡ plainly (fault.Missing (codes "BERT"))
nobody_to_permit = refl

deletes_permission : profiles_after (operation.PermitDelete Opercmds (codes "A.B") (codes "EMIL") None)
    ≡ Some (profile (codes "A.B") (codes "CARL") level.None false [] ∷ of_fred ∷ of_all ∷ [])
deletes_permission = refl

no_profile_to_delete_from : refusal (operation.PermitDelete Opercmds (codes "C") (codes "EMIL") None) ≡ plainly (fault.Missing (codes "C"))
no_profile_to_delete_from = refl

no_permission_to_delete : refusal (operation.PermitDelete Opercmds (codes "A.B") (codes "ANNA") None) ≡ plainly (fault.Missing (codes "ANNA"))
no_permission_to_delete = refl

-- beside the entry for every console, and after it
permits_at_console : profiles_after (operation.Permit Opercmds (codes "A.B") (codes "EMIL") level.Update (Some (codes "C1")))
    ≡ Some (profile (codes "A.B") (codes "CARL") level.None false
    (entry (codes "EMIL") level.Read ∷ at (codes "C1") (codes "EMIL") level.Update ∷ []) ∷ of_fred ∷ of_all ∷ [])
permits_at_console = refl

-- whether the console is there or not
permits_at_no_console : refusal (operation.Permit Opercmds (codes "A.B") (codes "EMIL") level.Update (Some (codes "NOWHERE"))) ≡ None
permits_at_no_console = refl

no_permission_at_console : refusal (operation.PermitDelete Opercmds (codes "A.B") (codes "EMIL") (Some (codes "C1"))) ≡ plainly (fault.Missing (codes "EMIL"))
no_permission_at_console = refl

abbrev with_entries : List Entry → State
with_entries entries =
    record base {
      policy = record base.policy
          { profiles = profile (codes "A.B") (codes "CARL") level.None false entries ∷ of_fred ∷ of_all ∷ [] };
    }

abbrev refusal_with : List Entry → Operation → Option Refusal
refusal_with entries o = first_refusal (with_entries entries) (input.Admin (codes "C2") o)

no_permission_elsewhere : refusal_with (at (codes "C1") (codes "EMIL") level.Read ∷ [])
    (operation.PermitDelete Opercmds (codes "A.B") (codes "EMIL") None) ≡ plainly (fault.Missing (codes "EMIL"))
no_permission_elsewhere = refl

permission_at_console : refusal_with (at (codes "C1") (codes "EMIL") level.Read ∷ [])
    (operation.PermitDelete Opercmds (codes "A.B") (codes "EMIL") (Some (codes "C1"))) ≡ None
permission_at_console = refl

-- a user with an entry for one console alone is in use
in_use_at_console : refusal_with (at (codes "C1") (codes "GUS") level.Read ∷ []) (operation.DelUser (codes "GUS")) ≡ plainly (fault.InUse (codes "GUS"))
in_use_at_console = refl

restricts_user : refusal (operation.AltUser (codes "ANNA") false false false None true) ≡ None
restricts_user = refl

-- levels: EMIL has READ, and UPDATE at C1; everyone has CONTROL at C2 and READ by universal access

abbrev emil : Bool → User
emil restricted = record { id = codes "EMIL"; special = false; auditor = false; revoked = false; digest = None; restricted = restricted }

abbrev carl : Bool → User
carl restricted = record { id = codes "CARL"; special = false; auditor = false; revoked = false; digest = None; restricted = restricted }

abbrev level_at : User → Option (List ℕ) → Level
level_at u console =
    held (profile (codes "A.B") (codes "CARL") level.Read false
    (at (codes "C2") (codes "*") level.Control ∷ at (codes "C3") (codes "EMIL") level.None
    ∷ entry (codes "EMIL") level.Read ∷ at (codes "C1") (codes "EMIL") level.Update ∷ [])) u console []

nowhere : level_at (emil false) None ≡ level.Read
unfolding held
nowhere = refl

raised : level_at (emil false) (Some (codes "C1")) ≡ level.Update
unfolding held
raised = refl

-- NONE at C3 does not lower it
not_lowered : level_at (emil false) (Some (codes "C3")) ≡ level.Read
unfolding held
not_lowered = refl

everyone_at_console : level_at (carl false) (Some (codes "C2")) ≡ level.Control
unfolding held
everyone_at_console = refl

restricted_has_neither : level_at (carl true) (Some (codes "C2")) ≡ level.None
unfolding held
restricted_has_neither = refl

restricted_has_own_entry : level_at (emil true) (Some (codes "C1")) ≡ level.Update
unfolding held
restricted_has_own_entry = refl
