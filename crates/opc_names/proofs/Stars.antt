-- Qualifiers of patterns other than `**`.
use Rattle.std.proofs.Common.{◌≡◌, ◌≢◌, ℕ, ◌-◌, ◌==◌, if◌then◌else◌, ◌↔◌, List, [], ◌∷◌, length, Some, true, false, arith, refl, ◌⊎◌, inl, inr, sub-one}
use Rattle.std.specs.List.{slice_get}
use Rattle.std.proofs.lemmas.Bool.Decides.{nat_tests, eqb_tells}
use Rattle.opc_names.specs.declared.token.Token.{Token}
use Rattle.opc_names.specs.declared.token.Token.TheVariants.{Literal, Percent, Star, Stars}
use Rattle.opc_names.specs.Patterns.{token_of, tokens, Matches, EndsInStar, Covers}
use Rattle.opc_names.specs.Walk.{StarOnlyLast}

-- a qualifier other than `**`
abbrev pub BeginsOther : List Token → Type 0
BeginsOther [] = Unit {0}
BeginsOther (Literal c ∷ q) = Unit {0}
BeginsOther (Percent ∷ q) = Unit {0}
BeginsOther (Star ∷ q) = Unit {0}
BeginsOther (Stars ∷ q) = ⊥

-- the tokens of a character other than `*`, before others
pub tokens-other : (c : ℕ) (cs : List ℕ) → c ≢ 42 → tokens (c ∷ cs) ≡ token_of c ∷ tokens cs
tokens-other c [] h = refl
tokens-other c (d ∷ cs) h = grind (arith, nat_tests)

begins_one : (c : ℕ) (q : List Token) → BeginsOther (token_of c ∷ q)
begins_one c q =
    elim (c == 42) as (λ b. BeginsOther ((if b then Star else (if c == 37 then Percent else Literal c)) ∷ q)) [
      | true ↦ tt
      | false ↦ elim (c == 37) as (λ b. BeginsOther ((if b then Percent else Literal c) ∷ q)) [ true ↦ tt | false ↦ tt ]
    ]

pub begins_other : (q : List ℕ) → StarOnlyLast q → BeginsOther (tokens q)
begins_other [] h = tt
begins_other (c ∷ []) h = begins_one c []
begins_other (c ∷ (d ∷ q)) h = rw (tokens-other c (d ∷ q) h.0) (begins_one c (tokens (d ∷ q)))

ends_one : (c : ℕ) (q : List Token) → c ≢ 42 → EndsInStar (token_of c ∷ q) ↔ EndsInStar q
ends_one c q h =
    elim (eqb_tells c 42) [
      | inl k ↦ absurd (h k.1)
      | inr k ↦ rw k.0 (elim (c == 37) as (λ b. EndsInStar ((if b then Percent else Literal c) ∷ q) ↔ EndsInStar q)
          [ true ↦ (λ e. e, λ e. e) | false ↦ (λ e. e, λ e. e) ])
    ]

pub last_star : (q : List ℕ) → StarOnlyLast q → (slice_get q (length q - 1) ≡ Some 42) ↔ EndsInStar (tokens q)
last_star [] h = (λ e. cc, λ e. absurd e)
last_star (c ∷ []) h =
    elim (eqb_tells c 42) [
      | inl k ↦ rw (k.0, k.1) (λ e. refl, λ e. refl)
      | inr k ↦ (λ e. absurd (k.1 cc), λ e. absurd ((ends_one c [] k.1).0 e))
    ]
last_star (c ∷ (d ∷ q)) h =
    let more = ends_one c (tokens (d ∷ q)) h.0 in
    let rest = last_star (d ∷ q) h.1 in
    rw (tokens-other c (d ∷ q) h.0, sub-one) (λ e. more.1 (rest.0 (rw sub-one e)), λ e. rw sub-one at (rest.1 (more.0 e)))

-- what a qualifier other than `**` covers with those after it
pub covers_none : (q : List Token) (p : List (List Token)) → BeginsOther q → Covers (q ∷ p) [] → ⊥
covers_none [] p b h = h
covers_none (Literal c ∷ q) p b h = h
covers_none (Percent ∷ q) p b h = h
covers_none (Star ∷ q) p b h = h
covers_none (Stars ∷ q) p b h = b

pub covers_part : (q : List Token) (p : List (List Token)) (s : List ℕ) (r : List (List ℕ)) → BeginsOther q
    → Covers (q ∷ p) (s ∷ r) ↔ (Matches q s × (((p ≡ []) × EndsInStar q) ⊎ Covers p r))
covers_part [] p s r b = (λ h. h, λ h. h)
covers_part (Literal c ∷ q) p s r b = (λ h. h, λ h. h)
covers_part (Percent ∷ q) p s r b = (λ h. h, λ h. h)
covers_part (Star ∷ q) p s r b = (λ h. h, λ h. h)
covers_part (Stars ∷ q) p s r b = absurd b
