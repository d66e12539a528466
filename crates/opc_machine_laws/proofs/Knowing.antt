-- Whose password it is.
use Rattle.std.proofs.Common.{◌≡◌, ℕ, Bool, true, false, if◌then◌else◌, List, Option, Some, None, Decides, refl, rules, sym, ap, ◌∙◌}
use Rattle.std.specs.Option.{option_and_then}
use Rattle.std.specs.Str.{bytes_eq}
use Rattle.std.proofs.lemmas.Slice.Eq.{bytes_eq-Decides}
use Rattle.sha2.specs.Sha256.{sha256}
use Rattle.opc_policy_members.specs.declared.user.User.{User}
use Rattle.opc_policy_members.specs.Members.{user_of}
use Rattle.opc_state.specs.State.{State}
use Rattle.opc_machine.specs.Commands.{is_password, known_by}
use Rattle.opc_machine_laws.specs.Laws.{IsKnown}

module _ (s : State) (id password : List ℕ) (user : User) where
  -- a stored user, by whether the digest is that of the password
  by_match : (u : User) (digest : List ℕ) → user_of s.policy.users id ≡ Some u → u.digest ≡ Some digest → (b : Bool)
      → Decides b (digest ≡ sha256 password) → (if b then Some u else None) ≡ Some user → IsKnown s id password user
  by_match u digest at has true same h =
      let one : u ≡ user = search (rules, h) in
      record { stored = at ∙ ap Some one; digest = sym (ap (λ (x : User). x.digest) one) ∙ has ∙ ap Some (same.0 refl) }
  by_match u digest at has false same h = absurd (search (rules, h))

  by_digest : (u : User) (digest : Option (List ℕ)) → user_of s.policy.users id ≡ Some u → u.digest ≡ digest
      → (if is_password password digest then Some u else None) ≡ Some user → IsKnown s id password user
  by_digest u None at has h = absurd (search (rules, h))
  by_digest u (Some digest) at has h = by_match u digest at has (bytes_eq digest (sha256 password)) (bytes_eq-Decides digest (sha256 password)) h

  pub known_is : known_by s id password ≡ Some user → IsKnown s id password user
  known_is h = go (user_of s.policy.users id) refl h
    where
      go : (o : Option User) → user_of s.policy.users id ≡ o
          → option_and_then (λ (u : User). if is_password password u.digest then Some u else None) o ≡ Some user
          → IsKnown s id password user
      go None at h = absurd (search (rules, h))
      go (Some u) at h = by_digest u u.digest at refl h

  pub known_back : IsKnown s id password user → known_by s id password ≡ Some user
  known_back known =
      ap (option_and_then (λ (u : User). if is_password password u.digest then Some u else None)) known.stored
      ∙ ap (λ (d : Option (List ℕ)). if is_password password d then Some user else None) known.digest
      ∙ ap (λ (b : Bool). if b then Some user else None) ((bytes_eq-Decides (sha256 password) (sha256 password)).1 refl)

-- if it is nobody's
pub unknown : (s : State) (id password : List ℕ) → ((user : User) → IsKnown s id password user → ⊥) → known_by s id password ≡ None
unknown s id password nobody = go (known_by s id password) refl
  where
    go : (o : Option User) → known_by s id password ≡ o → o ≡ None
    go None is = refl
    go (Some user) is = absurd (nobody user (known_is s id password user is))
