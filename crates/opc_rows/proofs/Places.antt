-- What an edit at the first place of a kind makes of a list.
use Rattle.std.proofs.Common.{
  zero,
  suc,
  ◌≡◌,
  ℕ,
  ◌+◌,
  ◌<◌,
  Bool,
  true,
  false,
  not,
  cond,
  ltb,
  List,
  [],
  ◌∷◌,
  Some,
  None,
  take,
  drop,
  set,
  get_or,
  length,
  refl,
  ap,
  arith,
  sym,
  subst,
  ◌∙◌,
  add_comm,
  add-one,
}
use Rattle.std.proofs.Math.Numerals.{one-add}
use Rattle.std.specs.List.{insert, remove, position, position_or_len}
use Rattle.std.proofs.lemmas.Bool.Decides.{nat_tests}
use Rattle.std.specs.List.{AllByRecursion, filter, find}
use Rattle.opc_rows.specs.Ordered.{Ascends, IsChangedAtOne, put, changed}
use Rattle.opc_rows.proofs.Orders.{all_weaker}

-- a place one further on
take_further : {A : Type 0} (n : ℕ) (y : A) (ys : List A) → take (1 + n) (y ∷ ys) ≡ y ∷ take n ys
take_further n y ys = rw (add_comm 1 n, add-one) refl

drop_further : {A : Type 0} (n : ℕ) (y : A) (ys : List A) → drop (1 + n) (y ∷ ys) ≡ drop n ys
drop_further n y ys = rw (add_comm 1 n, add-one) refl

-- an element put at the first place that it is before
pub insert_first : {A : Type 0} (before : A → A → Bool) (x : A) (xs : List A) → insert xs (position_or_len (before x) xs) x ≡ put before x xs
insert_first before x [] = refl
insert_first before x (y ∷ ys) =
    elim (before x y) as (λ b. insert (y ∷ ys) (cond (not b) (1 + position_or_len (before x) ys) 0) x ≡ cond b (x ∷ y ∷ ys) (y ∷ put before x ys)) [
      | true ↦ refl
      | false ↦ rw (take_further, drop_further) (ap (λ zs. y ∷ zs) (insert_first before x ys))
    ]

-- the first element of a kind changed at its place
changed_first : {A : Type 0} (p : A → Bool) (f : A → A) (xs : List A) (y z : A) → position_or_len p xs < length xs
    → get_or xs (position_or_len p xs) y ≡ y → z ≡ f y → set xs (position_or_len p xs) z ≡ changed p f xs
changed_first p f [] y z = λ within found is. absurd (omega arith)
changed_first p f (x ∷ xs) y z =
    elim (p x) as (λ b. cond (not b) (1 + position_or_len p xs) 0 < length (x ∷ xs)
    → get_or (x ∷ xs) (cond (not b) (1 + position_or_len p xs) 0) y ≡ y → z ≡ f y
    → set (x ∷ xs) (cond (not b) (1 + position_or_len p xs) 0) z ≡ cond b (f x ∷ xs) (x ∷ changed p f xs)) [
      | true ↦ λ within found is. ap (λ w. w ∷ xs) (is ∙ ap f (sym found))
      | false ↦ rw (one-add (position_or_len p xs)) (λ within found is. ap (λ ws. x ∷ ws) (changed_first p f xs y z (omega arith) found is))
    ]

shown_place : (b : Bool) (n i : ℕ) → cond b (Some n) None ≡ Some i → (n ≡ i) × (b ≡ true)
shown_place true n i h = let same : n ≡ i = cc in (same, refl)
shown_place false n i h = absurd (cc)

pub place_found : {A : Type 0} (p : A → Bool) (xs : List A) (i : ℕ) → position p xs ≡ Some i → (position_or_len p xs ≡ i) × (position_or_len p xs < length xs)
place_found p xs i found =
    let shown = shown_place (ltb (position_or_len p xs) (length xs)) _ i found in
    (shown.0, grind (arith, nat_tests, shown.1))

pub changed_at : {A : Type 0} (p : A → Bool) (f : A → A) (xs : List A) (i : ℕ) (y z : A) → position p xs ≡ Some i
    → y ≡ get_or xs i y → z ≡ f y → set xs i z ≡ changed p f xs
changed_at p f xs i y z at found is =
    let place = place_found p xs i at in
    subst (λ (n : ℕ). set xs n z ≡ changed p f xs) place.0 (changed_first p f xs y z place.1 (rw place.0 (sym found)) is)

-- an element taken out, and another put in its place
pub set_again : {A : Type 0} (xs : List A) (i : ℕ) (z : A) → i < length xs → insert (remove xs i) i z ≡ set xs i z
set_again [] i z within = absurd (omega arith)
set_again (x ∷ xs) zero z within = refl
set_again (x ∷ xs) (suc i) z within = ap (λ ws. x ∷ ws) (set_again xs i z (omega arith))

-- what stands at the first place of a kind is found
find_at : {A : Type 0} (p : A → Bool) (xs : List A) (i : ℕ) (y : A) → position_or_len p xs ≡ i → i < length xs → y ≡ get_or xs i y → find p xs ≡ Some y
find_at p [] i y = λ first within is. absurd (omega arith)
find_at p (x ∷ xs) i y =
    elim (p x) as (λ b. cond (not b) (1 + position_or_len p xs) 0 ≡ i → i < length (x ∷ xs) → y ≡ get_or (x ∷ xs) i y → cond b (Some x) (find p xs) ≡ Some y) [
      | true ↦ λ first within is. let same : y ≡ x = subst (λ (n : ℕ). y ≡ get_or (x ∷ xs) n y) (sym first) is in ap Some (sym same)
      | false ↦ λ first within is.
          let rest : 1 + position_or_len p xs ≡ suc (position_or_len p xs) = omega arith in
          let there : y ≡ get_or (x ∷ xs) (suc (position_or_len p xs)) y = subst (λ (n : ℕ). y ≡ get_or (x ∷ xs) n y) (sym first ∙ rest) is in
          find_at p xs (position_or_len p xs) y refl (omega arith) there
    ]

pub found_there : {A : Type 0} (p : A → Bool) (xs : List A) (i : ℕ) (y : A) → position p xs ≡ Some i → y ≡ get_or xs i y → find p xs ≡ Some y
found_there p xs i y at is =
    let place = place_found p xs i at in
    let within : i < length xs = subst (λ (n : ℕ). n < length xs) place.0 place.1 in
    find_at p xs i y place.0 within is

-- one element of a kind changed at its place
pub changed_one : {A : Type 0} (p : A → Bool) (becomes : A → A → Type 0) (xs : List A) (i : ℕ) (y z : A) (ws : List A)
    → position p xs ≡ Some i → y ≡ get_or xs i y → becomes y z → ws ≡ set xs i z → IsChangedAtOne p becomes xs ws
changed_one p becomes xs i y z ws at is made same = rw (found_there p xs i y at is) (z, (made, same ∙ changed_at p (λ _. z) xs i y z at is refl))

-- all are kept if none passes
kept : {A : Type 0} (p : A → Bool) (xs : List A) → AllByRecursion (λ x. p x ≡ false) xs → filter (λ x. not (p x)) xs ≡ xs
kept p [] none = refl
kept p (x ∷ xs) none = let here : p x ≡ false = none.0 in rw here (ap (λ ws. x ∷ ws) (kept p xs none.1))

-- one row of a kind taken out at its place
remove_at : {A : Type 0} (before : A → A → Bool) (p : A → Bool)
    → ((x y : A) → p x ≡ true → before x y ≡ true → p y ≡ false) → (xs : List A) (i : ℕ) → Ascends before xs
    → position_or_len p xs ≡ i → i < length xs → remove xs i ≡ filter (λ x. not (p x)) xs
remove_at before p once [] i order = λ first within. absurd (omega arith)
remove_at before p once (x ∷ xs) i order =
    elim (p x) as (λ b. p x ≡ b → cond (not b) (1 + position_or_len p xs) 0 ≡ i → i < length (x ∷ xs)
    → remove (x ∷ xs) i ≡ cond (not b) (x ∷ filter (λ x. not (p x)) xs) (filter (λ x. not (p x)) xs)) [
      | true ↦ λ here first within. subst (λ (n : ℕ). remove (x ∷ xs) n ≡ filter (λ x. not (p x)) xs) first
          (sym (kept p xs (all_weaker (λ y. before x y ≡ true) (λ y. p y ≡ false) (λ y after. once x y here after) xs
          order.0)))
      | false ↦ λ here first within.
          let rest : suc (position_or_len p xs) ≡ i = omega arith in
          subst (λ (n : ℕ). remove (x ∷ xs) n ≡ x ∷ filter (λ x. not (p x)) xs) rest
          (ap (λ ws. x ∷ ws) (remove_at before p once xs (position_or_len p xs) order.1 refl (omega arith)))
    ] refl

-- one element of a kind taken out at its place
pub removed_there : {A : Type 0} (before : A → A → Bool) (p : A → Bool)
    → ((x y : A) → p x ≡ true → before x y ≡ true → p y ≡ false) → (xs : List A) (i : ℕ) → Ascends before xs
    → position p xs ≡ Some i → remove xs i ≡ filter (λ x. not (p x)) xs
removed_there before p once xs i order at =
    let place = place_found p xs i at in
    let within : i < length xs = subst (λ (n : ℕ). n < length xs) place.0 place.1 in
    remove_at before p once xs i order place.0 within
