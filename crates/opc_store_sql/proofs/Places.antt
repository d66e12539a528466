-- Rows that are numbered by their places, as a query in the order of the number returns them.
use Rattle.std.proofs.Common.{
  ◌≡◌,
  ℕ,
  zero,
  suc,
  ◌+◌,
  ◌-◌,
  ◌<◌,
  ◌≤◌,
  List,
  [],
  ◌∷◌,
  map,
  filter,
  drop,
  nat_lt,
  Bool,
  true,
  false,
  cond,
  refl,
  sym,
  ap,
  ◌∙◌,
  arith,
  Ordering,
  Less,
}
use Rattle.std.specs.List.{AllByRecursion}
use Rattle.std.specs.Ordering.{nat_cmp}
use Rattle.std.specs.Cmp.{nat_cmp_is}
use Rattle.std.proofs.lemmas.Bool.Decides.{nat_tests}
use Rattle.sqlite.specs.Order.{Row}
use Rattle.opc_store_sql.specs.Order.{Rises}
use Rattle.opc_store_sql.specs.Rows.{numbered_row, numbered_rows}

-- each with its number
abbrev pub placed : {X : Type 0} → ℕ → List X → List (ℕ × X)
placed n [] = []
placed n (x ∷ xs) = (n, x) ∷ placed (n + 1) xs

abbrev pub place_cmp : {X : Type 0} → ℕ × X → ℕ × X → Ordering
place_cmp p q = nat_cmp p.0 q.0

abbrev pub placed_row : {X : Type 0} → (X → Row) → ℕ × X → Row
placed_row values p = numbered_row values p.0 p.1

pub placed_rows : {X : Type 0} (values : X → Row) (n : ℕ) (xs : List X) → numbered_rows values n xs ≡ map (placed_row values) (placed n xs)
placed_rows values n [] = refl
placed_rows values n (x ∷ xs) = ap (λ (l : List Row). numbered_row values n x ∷ l) (placed_rows values (n + 1) xs)

all_later : {X : Type 0} (m n : ℕ) (x : X) (xs : List X) → m < n → AllByRecursion (λ q. place_cmp (m, x) q ≡ Less) (placed n xs)
all_later m n x [] h = tt
all_later m n x (y ∷ xs) h = (sym (nat_cmp_is m n Less h), all_later m (n + 1) x xs (omega arith))

pub placed_rises : {X : Type 0} (n : ℕ) (xs : List X) → Rises place_cmp (placed n xs)
placed_rises n [] = tt
placed_rises n (x ∷ xs) = (all_later n (n + 1) x xs (omega arith), placed_rises (n + 1) xs)

none_dropped : {X : Type 0} (n : ℕ) → (let none : List X = [] in drop n none ≡ none)
none_dropped zero = refl
none_dropped (suc n) = refl

-- those after a number
pub placed_after : {X : Type 0} (k n : ℕ) (xs : List X) → filter (λ (p : ℕ × X). nat_lt k p.0) (placed n xs) ≡ drop (suc k - n) (placed n xs)
placed_after k n [] = sym (none_dropped (suc k - n))
placed_after {X} k n (x ∷ xs) = go (nat_lt k n) refl (placed_after k (n + 1) xs)
  where
    go : (b : Bool) → nat_lt k n ≡ b → filter (λ (p : ℕ × X). nat_lt k p.0) (placed (n + 1) xs) ≡ drop (suc k - (n + 1)) (placed (n + 1) xs)
        → cond b ((n, x) ∷ filter (λ (p : ℕ × X). nat_lt k p.0) (placed (n + 1) xs))
        (filter (λ (p : ℕ × X). nat_lt k p.0) (placed (n + 1) xs)) ≡ drop (suc k - n) ((n, x) ∷ placed (n + 1) xs)
    go true e more =
        let low : k < n = grind (arith, nat_tests, e) in
        let here : suc k - n ≡ 0 = omega arith in
        let later : suc k - (n + 1) ≡ 0 = omega arith in
        ap (λ (l : List (ℕ × X)). (n, x) ∷ l) (more ∙ ap (λ (m : ℕ). drop m (placed (n + 1) xs)) later)
        ∙ ap (λ (m : ℕ). drop m ((n, x) ∷ placed (n + 1) xs)) (sym here)
    go false e more =
        let high : n ≤ k = grind (arith, nat_tests, e) in
        let next : suc k - n ≡ suc (suc k - (n + 1)) = omega arith in
        more ∙ ap (λ (m : ℕ). drop m ((n, x) ∷ placed (n + 1) xs)) (sym next)

module _ {X Y : Type 0} (f : X → Y) where
  pub placed_members : (n : ℕ) (xs : List X) → map (λ (p : ℕ × X). f p.1) (placed n xs) ≡ map f xs
  placed_members n [] = refl
  placed_members n (x ∷ xs) = ap (λ (l : List Y). f x ∷ l) (placed_members (n + 1) xs)
