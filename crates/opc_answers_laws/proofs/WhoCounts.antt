-- Who counts in notes.
use Rattle.std.proofs.Common.{◌≡◌, ◌⊎◌, inl, inr, ℕ, Bool, true, false, List, Option, Some, None, refl}
use Rattle.std.specs.Prelude.{◌&&◌, if◌then◌else◌, not}
use Rattle.std.specs.Option.{is_none}
use Rattle.opc_check_notes.specs.declared.note.Finding.{Finding}
use Rattle.opc_check_notes.specs.declared.names.Given.TheVariants as given
use Rattle.opc_check_notes.specs.declared.note.Finding.TheVariants as found
use Rattle.opc_check_notes.specs.Named.{is_named}
use Rattle.opc_check_notes.specs.Notes.{if_so}
use Rattle.opc_answers_laws.specs.CountingLaws.{NotedUnlessActing, RevokedUsersCountAsNeither}

module _ (finding : Finding) where
  not_found : (digest : Option (List ℕ)) (revoked acts : Bool)
      → if_so (is_none digest && not revoked && not acts) finding ≡ None
      → ((d : List ℕ) × (digest ≡ Some d)) ⊎ ((revoked ≡ true) ⊎ (acts ≡ true))
  not_found (Some d) revoked acts h = inl (d, refl)
  not_found None true acts h = inr (inl refl)
  not_found None false true h = inr (inr refl)
  not_found None false false h = absurd (cc)

  found_else : (digest : Option (List ℕ)) (revoked acts : Bool)
      → ((d : List ℕ) × (digest ≡ Some d)) ⊎ ((revoked ≡ true) ⊎ (acts ≡ true))
      → if_so (is_none digest && not revoked && not acts) finding ≡ None
  found_else (Some d) revoked acts h = refl
  found_else None true acts h = refl
  found_else None false true h = refl
  found_else None false false (inl (d, h)) = absurd (cc)
  found_else None false false (inr (inl h)) = absurd (cc)
  found_else None false false (inr (inr h)) = absurd (cc)

pub noted_so : NotedUnlessActing
noted_so list user = (
  not_found (found.NoDigest user.id) user.digest user.revoked (is_named list given.AutoConsole user.id),
  found_else (found.NoDigest user.id) user.digest user.revoked (is_named list given.AutoConsole user.id),
)

unnamed : (id : List ℕ) (has revoked : Bool) → revoked ≡ true → (if has && not revoked then Some id else None) ≡ None
unnamed id true true h = refl
unnamed id false true h = refl
unnamed id has false h = absurd (cc)

pub as_neither : RevokedUsersCountAsNeither
as_neither user h = (unnamed user.id user.special user.revoked h, unnamed user.id user.auditor user.revoked h)
