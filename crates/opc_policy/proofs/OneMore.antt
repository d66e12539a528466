-- The deciding profile among some and one more.
use Rattle.std.proofs.Common.{ℕ, List, [], ◌∷◌, ◌++◌, Option, Some, None, subst, ⊎_elim}
use Rattle.std.specs.List.{Contains}
use Rattle.std.proofs.lemmas.List.Elements.{Contains-append_left, Contains-push, Contains-push_cases}
use Rattle.opc_names.specs.Patterns.{tokens, CoversText}
use Rattle.opc_names.proofs.Orders.{before_itself, before_trans}
use Rattle.opc_policy_members.specs.declared.profile.Profile.{Profile}
use Rattle.opc_policy.specs.Deciding.{IsBefore, IsDeciding}

module _ (seen : List Profile) (resource : List ℕ) (p : Profile) where
  -- a member of the longer list is one of the shorter, or the new one
  among : (P : Profile → Type 0) → ((q : Profile) → Contains seen q → P q) → P p → (q : Profile) → Contains (seen ++ p ∷ []) q → P q
  among P old new q h = ⊎_elim (old q) (λ e. subst P e new) (Contains-push_cases seen p q h)

  pub decided_without : (best : Option Profile) → (CoversText p.pattern resource → ⊥) → IsDeciding seen resource best
      → IsDeciding (seen ++ p ∷ []) resource best
  decided_without None uncovered h = among (λ q. CoversText q.pattern resource → ⊥) h uncovered
  decided_without (Some b) uncovered h =
      (Contains-append_left seen (p ∷ []) b h.0, h.1, among (λ q. CoversText q.pattern resource → IsBefore q b → ⊥) h.2 (λ c. absurd (uncovered c)))

  pub decided_first : CoversText p.pattern resource → IsDeciding seen resource None → IsDeciding (seen ++ p ∷ []) resource (Some p)
  decided_first covered h = (
    Contains-push seen p,
    covered,
    among (λ q. CoversText q.pattern resource → IsBefore q p → ⊥)
        (λ q k c. absurd (h q k c)) (λ c. before_itself (tokens p.pattern)),
  )

  pub decided_still : (b : Profile) → (IsBefore p b → ⊥) → IsDeciding seen resource (Some b) → IsDeciding (seen ++ p ∷ []) resource (Some b)
  decided_still b later h =
      (Contains-append_left seen (p ∷ []) b h.0, h.1, among (λ q. CoversText q.pattern resource → IsBefore q b → ⊥) h.2 (λ c. later))

  pub decided_now : (b : Profile) → CoversText p.pattern resource → IsBefore p b → IsDeciding seen resource (Some b)
      → IsDeciding (seen ++ p ∷ []) resource (Some p)
  decided_now b covered earlier h = (
    Contains-push seen p,
    covered,
    among (λ q. CoversText q.pattern resource → IsBefore q p → ⊥)
        (λ q k c e. h.2 q k c (before_trans _ (tokens p.pattern) _ e earlier))
        (λ c. before_itself (tokens p.pattern)),
  )
