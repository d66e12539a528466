-- Users that are found at an id have it.
use Rattle.std.proofs.Common.{◌≡◌, ℕ, Bool, true, false, List, [], ◌∷◌, Some, refl, sym, subst, ◌∙◌, ap, if◌then◌else◌}
use Rattle.std.specs.Str.{bytes_eq}
use Rattle.std.proofs.lemmas.Slice.Eq.{bytes_eq-Decides}
use Rattle.opc_policy_members.specs.declared.user.User.{User}
use Rattle.opc_policy_members.specs.Members.{user_of}

pub has_the_id : (users : List User) (id : List ℕ) (u : User) → user_of users id ≡ Some u → id ≡ u.id
has_the_id [] id u is = absurd (cc)
has_the_id (v ∷ users) id u is = go (bytes_eq id v.id) refl is (has_the_id users id u)
  where
    go : (b : Bool) → bytes_eq id v.id ≡ b → (if b then Some v else user_of users id) ≡ Some u
        → (user_of users id ≡ Some u → id ≡ u.id) → id ≡ u.id
    go true same found later = let is_it : v ≡ u = cc in (bytes_eq-Decides id v.id).0 same ∙ ap (λ (w : User). w.id) is_it
    go false other found later = later found

pub stored : (users : List User) (id : List ℕ) (u : User) → Some u ≡ user_of users id → user_of users u.id ≡ Some u
stored users id u is = subst (λ name. user_of users name ≡ Some u) (has_the_id users id u (sym is)) (sym is)
