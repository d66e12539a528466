-- The first part of a text.
use Rattle.std.proofs.Common.{◌≡◌, ℕ, ◌+◌, ◌≤◌, ◌==◌, not, cond, List, [], ◌∷◌, length, take, drop, Some, None, true, false, arith, ap, suc, refl}
use Rattle.std.specs.List.{position, position_or_len, onto_first}
use Rattle.std.proofs.lemmas.Bool.Decides.{nat_tests}
use Rattle.std.proofs.lemmas.List.Splits.{slice_split_first}
use Rattle.opc_names.specs.Names.{qualifiers}

pub qualifiers_found : (text : List ℕ) (at : ℕ) → position (λ c. c == 46) text ≡ Some at → qualifiers text ≡ take at text ∷ qualifiers (drop (at + 1) text)
qualifiers_found text at e = grind (arith, nat_tests, slice_split_first (λ c. c == 46) text 0)

unsplit : (text : List ℕ) → length text ≤ position_or_len (λ c. c == 46) text → qualifiers text ≡ text ∷ []
unsplit [] h = refl
unsplit (c ∷ cs) h =
    elim (c == 46) as (λ b. suc (length cs) ≤ cond (not b) (1 + position_or_len (λ d. d == 46) cs) 0
    → cond b ([] ∷ qualifiers cs) (onto_first c (qualifiers cs)) ≡ (c ∷ cs) ∷ []) [
      | true ↦ (λ k. absurd (omega arith))
      | false ↦ (λ k. ap (onto_first c) (unsplit cs (omega arith)))
    ] h

pub qualifiers_one : (text : List ℕ) → position (λ c. c == 46) text ≡ None → qualifiers text ≡ text ∷ []
qualifiers_one text e = let h : length text ≤ position_or_len (λ c. c == 46) text = grind (arith, nat_tests) in unsplit text h

onto_first_some : (c : ℕ) (parts : List (List ℕ)) → onto_first c parts ≡ [] → ⊥
onto_first_some c [] e = cc
onto_first_some c (p ∷ ps) e = cc

-- a text has a first qualifier
pub qualifiers_some : (text : List ℕ) → qualifiers text ≡ [] → ⊥
qualifiers_some [] e = cc
qualifiers_some (c ∷ cs) e =
    elim (c == 46) as (λ b. cond b ([] ∷ qualifiers cs) (onto_first c (qualifiers cs)) ≡ [] → ⊥) [
      | true ↦ (λ k. cc)
      | false ↦ onto_first_some c (qualifiers cs)
    ] e
