-- Who counts in notes.
use Rattle.std.specs.Prelude.{◌≡◌, ◌⊎◌, ◌↔◌, ℕ, true, List, Some, None}
use Rattle.opc_policy_members.specs.declared.row.Row.TheVariants as rows
use Rattle.opc_policy_members.specs.declared.user.User.{User}
use Rattle.opc_check_notes.specs.declared.names.Given.TheVariants as given
use Rattle.opc_check_notes.specs.declared.numbered.NumberedRow.{NumberedRow}
use Rattle.opc_check_notes.specs.Named.{is_named, named}
use Rattle.opc_check_notes.specs.Notes.{no_digest}

-- A user has no note N03 exactly if a digest is stored, the user is revoked, or an AUTO console has this name.
abbrev pub NotedUnlessActing : Type 0
NotedUnlessActing = (list : List NumberedRow) (user : User)
    → (no_digest list (rows.User user) ≡ None)
    ↔ (((digest : List ℕ) × (user.digest ≡ Some digest))
    ⊎ ((user.revoked ≡ true) ⊎ (is_named list given.AutoConsole user.id ≡ true)))

-- A revoked user counts neither as SPECIAL nor as AUDITOR.
abbrev pub RevokedUsersCountAsNeither : Type 0
RevokedUsersCountAsNeither = (user : User) → user.revoked ≡ true
    → (named given.Special (rows.User user) ≡ None) × (named given.Auditor (rows.User user) ≡ None)
