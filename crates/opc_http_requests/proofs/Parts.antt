-- The parts of a path between its slashes.
use Rattle.std.proofs.Common.{◌≡◌, ◌==◌, ℕ, zero, suc, List, [], ◌∷◌, drop, inl, inr, refl, ap}
use Rattle.std.specs.Prelude.{Bool, Option, None, Some, unwrap_or}
use Rattle.std.specs.Option.{option_map}
use Rattle.std.specs.List.{onto_first, slice_get, slice_split}
use Rattle.std.proofs.lemmas.Bool.{cases_Bool}
use denote.Ref.{Bor}
use Rattle.opc_http_requests.specs.Routes.{after_part, part, part_at}

abbrev pub is_slash : ℕ → Bool
is_slash b = b == 47

-- the parts after the first slash
abbrev later : List ℕ → List (List ℕ)
later [] = []
later (b ∷ rest) = slice_split is_slash rest

parts : (path : List ℕ) → slice_split is_slash path ≡ part path ∷ later (after_part path)
parts [] = refl
parts (b ∷ rest) = elim (cases_Bool (b == 47)) [
  | inl slash ↦ rw slash refl
  | inr other ↦ rw other (ap (onto_first b) (parts rest))
]

part-none : (n : ℕ) → part_at n [] ≡ []
part-none zero = refl
part-none (suc n) = part-none n

pub part-split : (n : ℕ) (path : List ℕ) → unwrap_or (slice_get (slice_split is_slash path) n) [] ≡ part_at n path
part-split zero path = rw (parts path) refl
part-split (suc n) path = rw (parts path) (after (after_part path) (λ rest. part-split n rest))
  where
    after : (left : List ℕ) → ((rest : List ℕ)
        → unwrap_or (slice_get (slice_split is_slash rest) n) [] ≡ part_at n rest)
        → unwrap_or (slice_get (later left) n) [] ≡ part_at n (drop 1 left)
    after [] at = rw (part-none n) refl
    after (b ∷ rest) at = at rest

-- the text after a reference, or an empty text
pub shown : (found : Option (Bor (List ℕ))) (none : Bor (List ℕ)) (parts : List (List ℕ)) (n : ℕ) → none.now ≡ []
    → option_map (λ (r : Bor (List ℕ)). r.now) found ≡ slice_get parts n
    → (unwrap_or found none).now ≡ unwrap_or (slice_get parts n) []
shown None none parts n empty e = rw (← e) empty
shown (Some r) none parts n empty e = rw (← e) refl
