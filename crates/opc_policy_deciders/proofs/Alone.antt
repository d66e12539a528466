-- The places of patterns that are on one side alone.
use Rattle.std.proofs.Common.{
  ◌≡◌,
  inl,
  inr,
  ◌≤◌,
  ◌<◌,
  ◌+◌,
  ◌∙◌,
  ap,
  sym,
  subst,
  ℕ,
  zero,
  suc,
  Bool,
  true,
  false,
  nat_lt,
  List,
  [],
  ◌∷◌,
  ◌++◌,
  Some,
  get_or,
  length,
  take,
  arith,
}
use Rattle.std.specs.List.{slice_get}
use Rattle.std.specs.List.Sorted.{IsPartitionPoint, IsPartitionedBy}
use Rattle.std.proofs.lemmas.Bool.{cases_lt}
use Rattle.std.proofs.lemmas.Bool.Decides.{nat_tests}
use Rattle.std.proofs.lemmas.Option.{slice_get-get_or}
use Rattle.opc_policy_deciders.specs.Places.{places_alone}

-- ---- they ascend

from_on : (n : ℕ) (stand : List Bool) (j d : ℕ) → j < length (places_alone n stand) → n ≤ get_or (places_alone n stand) j d
from_on n [] j d low = absurd (omega (arith, low))
from_on n (true ∷ stand) j d low = let more = from_on (n + 1) stand j d low in omega (arith, more)
from_on n (false ∷ stand) zero d low = omega arith
from_on n (false ∷ stand) (suc j) d low = let more = from_on (n + 1) stand j d (omega (arith, low)) in omega (arith, more)

ascend : (n : ℕ) (stand : List Bool) (i j d : ℕ) → i ≤ j → j < length (places_alone n stand)
    → get_or (places_alone n stand) i d ≤ get_or (places_alone n stand) j d
ascend n [] i j d up low = absurd (omega (arith, low))
ascend n (true ∷ stand) i j d up low = ascend (n + 1) stand i j d up low
ascend n (false ∷ stand) zero zero d up low = omega arith
ascend n (false ∷ stand) zero (suc j) d up low = let more = from_on (n + 1) stand j d (omega (arith, low)) in omega (arith, more)
ascend n (false ∷ stand) (suc i) zero d up low = absurd (omega (arith, up))
ascend n (false ∷ stand) (suc i) (suc j) d up low = ascend (n + 1) stand i j d (omega (arith, up)) (omega (arith, low))

less : (j from : ℕ) → nat_lt j from ≡ true → j < from
less j from h = grind (arith, nat_tests)

is_less : (j from : ℕ) → j < from → nat_lt j from ≡ true
is_less j from h = grind (arith, nat_tests)

not_less : (j from : ℕ) → nat_lt j from ≡ false → from ≤ j
not_less j from h = grind (arith, nat_tests)

parted : (stand : List Bool) (from : ℕ) → IsPartitionedBy (λ j. nat_lt j from) (places_alone 0 stand)
parted stand from i j d up low below =
    let order = ascend 0 stand i j d up low in
    let last = less (get_or (places_alone 0 stand) j d) from below in
    is_less (get_or (places_alone 0 stand) i d) from (omega (arith, order, last))

-- ---- each is there

within : (n : ℕ) (stand : List Bool) (j d : ℕ) → j < length (places_alone n stand) → get_or (places_alone n stand) j d < n + length stand
within n [] j d low = absurd (omega (arith, low))
within n (true ∷ stand) j d low = let more = within (n + 1) stand j d low in omega (arith, more)
within n (false ∷ stand) zero d low = omega arith
within n (false ∷ stand) (suc j) d low = let more = within (n + 1) stand j d (omega (arith, low)) in omega (arith, more)

abbrev IsListed : (n : ℕ) → (stand : List Bool) → (k : ℕ) → Type 0
IsListed n stand k = (j : ℕ) × (j < length (places_alone n stand)) × ((d : ℕ) → get_or (places_alone n stand) j d ≡ n + k)

listed : (n : ℕ) (stand : List Bool) (k : ℕ) → slice_get stand k ≡ Some false → IsListed n stand k
listed n [] k at = cc
listed n (true ∷ stand) zero at = cc
listed n (true ∷ stand) (suc k) at =
    let more = listed (n + 1) stand k at in
    (more.0, more.1, λ d. let e = more.2 d in omega (arith, e))
listed n (false ∷ stand) zero at = (0, omega arith, λ d. omega arith)
listed n (false ∷ stand) (suc k) at =
    let more = listed (n + 1) stand k at in
    let low = more.1 in
    (suc more.0, omega (arith, low), λ d. let e = more.2 d in omega (arith, e))

-- ---- from one place on up to the next of them

pub parted_at : (stand : List Bool) (alone : List ℕ) (from : ℕ) → alone ≡ places_alone 0 stand → IsPartitionedBy (λ j. nat_lt j from) alone
parted_at stand alone from is = subst (IsPartitionedBy (λ j. nat_lt j from)) (sym is) (parted stand from)

module _ (stand : List Bool) (alone : List ℕ) (from at : ℕ) (is : alone ≡ places_alone 0 stand)
    (parts : IsPartitionPoint (λ j. nat_lt j from ≡ true) (λ j. nat_lt j from ≡ false) alone at) where
  count : length alone ≡ length (places_alone 0 stand)
  count = ap length is

  is_at : (j d : ℕ) → get_or alone j d ≡ get_or (places_alone 0 stand) j d
  is_at j d = ap (λ l. get_or l j d) is

  other : (upto : ℕ) → (at < length alone → upto ≡ get_or alone at upto) → (place : ℕ) → from ≤ place → place < upto
      → IsListed 0 stand place → ⊥
  other upto next place low high (j, inside, found) =
      elim (cases_lt j at) [
        | inl before ↦ (let early = less (get_or alone j upto) from (parts.0 j upto (omega arith) before) in
            let same = is_at j upto ∙ found upto in
            omega (arith, early, same, low))
        | inr after ↦ (let upward = ascend 0 stand at j upto after inside in
            let last = next (let few = count in omega (arith, after, inside, few)) ∙ is_at at upto in
            let same = found upto in
            omega (arith, upward, last, same, high))
      ]

  all_stand : (upto : ℕ) → (at < length alone → upto ≡ get_or alone at upto) → (place : ℕ) → from ≤ place → place < upto
      → place < length stand → slice_get stand place ≡ Some true
  all_stand upto next place low high inside = go (get_or stand place true) (slice_get-get_or stand place true inside)
    where
      go : (b : Bool) → slice_get stand place ≡ Some b → slice_get stand place ≡ Some true
      go true so = so
      go false so = absurd (other upto next place low high (listed 0 stand place so))

  pub next_within : (next : ℕ) → at < length alone → next ≡ get_or alone at next → (from ≤ next) × (next ≤ length stand)
  next_within next low so =
      let few = count in
      let high = within 0 stand at next (omega (arith, low, few)) in
      let same = is_at at next in
      let after = not_less (get_or alone at next) from (parts.1 at next (omega arith) low) in
      (omega (arith, after, so), omega (arith, high, so, same))

  -- up to the next one
  pub stand_to_next : (next : ℕ) → at < length alone → next ≡ get_or alone at next
      → (place : ℕ) → from ≤ place → place < next → slice_get stand place ≡ Some true
  stand_to_next next low so place after before =
      let high = (next_within next low so).1 in
      all_stand next (λ _. so) place after before (omega (arith, high, before))

  -- up to the end
  pub stand_to_end : length alone ≤ at → (place : ℕ) → from ≤ place → place < length stand → slice_get stand place ≡ Some true
  stand_to_end none place after before = all_stand (length stand) (λ low. absurd (omega (arith, low, none))) place after before before

-- ---- how they are listed

moved : (n i : ℕ) → (n + 1) + i ≡ n + suc i
moved n i = omega arith

behind : (n : ℕ) (stand : List Bool) (i : ℕ) (d : Bool) → i < length stand
    → places_alone n (take (suc i) stand) ≡ places_alone n (take i stand) ++ places_alone (n + i) (get_or stand i d ∷ [])
behind n [] i d low = absurd (omega (arith, low))
behind n (b ∷ stand) zero d low = ap (λ m. places_alone m (b ∷ [])) (plus n)
  where
    plus : (n : ℕ) → n ≡ n + 0
    plus n = omega arith
behind n (true ∷ stand) (suc i) d low =
    behind (n + 1) stand i d (omega (arith, low))
    ∙ ap (λ m. places_alone (n + 1) (take i stand) ++ places_alone m (get_or stand i d ∷ [])) (moved n i)
behind n (false ∷ stand) (suc i) d low =
    ap (λ l. n ∷ l) (behind (n + 1) stand i d (omega (arith, low))
    ∙ ap (λ m. places_alone (n + 1) (take i stand) ++ places_alone m (get_or stand i d ∷ [])) (moved n i))

pub one_more : (stand : List Bool) (i : ℕ) (d : Bool) (old new : List ℕ) → i < length stand → old ≡ places_alone 0 (take i stand)
    → new ≡ old ++ places_alone i (get_or stand i d ∷ []) → new ≡ places_alone 0 (take (i + 1) stand)
one_more stand i d old new low so_far added =
    added ∙ ap (λ l. l ++ places_alone i (get_or stand i d ∷ [])) so_far
    ∙ ap (λ m. places_alone 0 (take i stand) ++ places_alone m (get_or stand i d ∷ [])) (same i) ∙ sym (behind 0 stand i d low)
    ∙ ap (λ m. places_alone 0 (take m stand)) (next i)
  where
    same : (i : ℕ) → i ≡ 0 + i
    same i = omega arith

    next : (i : ℕ) → suc i ≡ i + 1
    next i = omega arith
