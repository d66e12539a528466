-- A row that is added to those that are loaded.
use Rattle.std.proofs.Common.{◌≡◌, Bool, true, false, cond, ◌||◌, List, [], ◌∷◌, filter, Option, Some, None, Ordering, refl, ap, ap₂, sym, ◌∙◌}
use Rattle.std.specs.Cmp.{IsTotalOrder}
use Rattle.std.specs.List.{AllByRecursion, IsAllAdjacentAnswer, find}
use Rattle.std.specs.Option.{is_some}
use Rattle.std.specs.Ordering.{is_lt}
use Rattle.std.specs.declared.cmp.Ordering.TheVariants.{Less, Equal, Greater}
use Rattle.opc_rows.specs.Ordered.{Ascends, IsInKeyOrder, comes_before, put}
use Rattle.opc_rows.proofs.Orders.{all_filter, all_found, all_weaker, ascends_or_not, find_none}
use Rattle.opc_gate_footprints.specs.Joined.{joined}

less_is : (o : Ordering) → is_lt o ≡ true → o ≡ Less
less_is Less e = refl
less_is Equal e = absurd (cc)
less_is Greater e = absurd (cc)

-- rows that are tested to be in order are
pub tested : {K R : Type 0} (cmp : K → K → Ordering) → IsTotalOrder cmp → (key_of : R → K) (rows : List R) (r : Bool)
    → IsAllAdjacentAnswer (λ x y b. b ≡ comes_before cmp key_of x y) rows r → r ≡ true → IsInKeyOrder cmp key_of rows
tested cmp total key_of rows true answer is =
    ascends_or_not (comes_before cmp key_of)
    (λ x y z e f. ap is_lt (total.trans (key_of x) (key_of y) (key_of z) (less_is _ e) (less_is _ f))) rows true answer
tested cmp total key_of rows false answer is = absurd (cc)

or_false : (a b : Bool) → b ≡ false → a ≡ a || b
or_false true b none = refl
or_false false b none = sym none

module _ {A : Type 0} (before : A → A → Bool) (is_at p : A → Bool) where
  -- if none is at the key, none comes
  none_more : (xs : List A) → AllByRecursion (λ x. is_at x ≡ false) xs → filter p xs ≡ filter (λ x. p x || is_at x) xs
  none_more [] none = refl
  none_more (x ∷ xs) none = ap₂ (λ c ws. cond c (x ∷ ws) ws) (or_false (p x) (is_at x) none.0) (none_more xs none.1)

  not_found : (xs : List A) → AllByRecursion (λ x. is_at x ≡ false) xs → find is_at xs ≡ None
  not_found [] none = refl
  not_found (x ∷ xs) none = ap (λ c. cond c (Some x) (find is_at xs)) none.0 ∙ not_found xs none.1

  goes_first : (x : A) (xs : List A) → AllByRecursion (λ y. before x y ≡ true) xs → put before x xs ≡ x ∷ xs
  goes_first x [] after = refl
  goes_first x (y ∷ ys) after = ap (λ c. cond c (x ∷ y ∷ ys) (y ∷ put before x ys)) after.0

  stays_first : (c : Bool) (x : A) (xs ys : List A) → cond c (x ∷ xs) (x ∷ ys) ≡ x ∷ cond c xs ys
  stays_first true x xs ys = refl
  stays_first false x xs ys = refl

  module _ (once : (x y : A) → is_at x ≡ true → before x y ≡ true → is_at y ≡ false) (one_way : (x y : A) → before x y ≡ true → before y x ≡ false) where
    one_more : (row : A) (xs : List A) → Ascends before xs → find is_at xs ≡ Some row
        → joined before is_at (Some row) (filter p xs) ≡ filter (λ x. p x || is_at x) xs
    one_more row [] order at = absurd (cc)
    one_more row (x ∷ xs) order at = go (is_at x) (p x) refl refl at (one_more row xs order.1)
      where
        none : is_at x ≡ true → AllByRecursion (λ y. is_at y ≡ false) xs
        none here = all_weaker (λ y. before x y ≡ true) (λ y. is_at y ≡ false) (λ y after. once x y here after) xs order.0

        go : (a b : Bool) → is_at x ≡ a → p x ≡ b → cond a (Some x) (find is_at xs) ≡ Some row
            → (find is_at xs ≡ Some row → joined before is_at (Some row) (filter p xs) ≡ filter (λ y. p y || is_at y) xs)
            → joined before is_at (Some row) (cond b (x ∷ filter p xs) (filter p xs)) ≡ cond (b || a)
            (x ∷ filter (λ y. p y || is_at y) xs) (filter (λ y. p y || is_at y) xs)
        go true true here there at later =
            ap (λ c. cond (is_some (cond c (Some x) (find is_at (filter p xs)))) (x ∷ filter p xs) (put before row (x ∷ filter p xs))) here
            ∙ ap (λ ws. x ∷ ws) (none_more xs (none here))
        go true false here there at later =
            let is : x ≡ row = cc in
            ap (λ o. cond (is_some o) (filter p xs) (put before row (filter p xs)))
            (not_found (filter p xs) (all_filter (λ y. is_at y ≡ false) p xs (none here)))
            ∙ ap (λ r. put before r (filter p xs)) (sym is)
            ∙ goes_first x (filter p xs) (all_filter (λ y. before x y ≡ true) p xs order.0)
            ∙ ap (λ ws. x ∷ ws) (none_more xs (none here))
        go false true here there at later =
            let after : before row x ≡ false = one_way x row (all_found (λ y. before x y ≡ true) is_at row xs at order.0) in
            ap (λ c. cond (is_some (cond c (Some x) (find is_at (filter p xs)))) (x ∷ filter p xs) (put before row (x ∷ filter p xs))) here
            ∙ ap (λ c. cond (is_some (find is_at (filter p xs))) (x ∷ filter p xs) (cond c (row ∷ x ∷ filter p xs) (x ∷ put before row (filter p xs)))) after
            ∙ stays_first (is_some (find is_at (filter p xs))) x (filter p xs) (put before row (filter p xs))
            ∙ ap (λ ws. x ∷ ws) (later at)
        go false false here there at later = later at

    -- the row at a key, if there is one, is added to those that are loaded
    pub joins : (found : Option A) (xs : List A) → Ascends before xs → found ≡ find is_at xs
        → joined before is_at found (filter p xs) ≡ filter (λ x. p x || is_at x) xs
    joins None xs order at = none_more xs (find_none is_at xs (ap is_some (sym at)))
    joins (Some row) xs order at = one_more row xs order (sym at)

  -- what is added is there
  found_before : (c : Bool) (y : A) (ys : List A) → is_some (find is_at ys) ≡ true → is_some (cond c (Some y) (find is_at ys)) ≡ true
  found_before true y ys more = refl
  found_before false y ys more = more

  put_there : (row : A) (ys : List A) → is_at row ≡ true → is_some (find is_at (put before row ys)) ≡ true
  put_there row [] here = ap (λ c. is_some (cond c (Some row) None)) here
  put_there row (y ∷ ys) here = placed (before row y) (put_there row ys here)
    where
      placed : (b : Bool) → is_some (find is_at (put before row ys)) ≡ true → is_some (find is_at (cond b (row ∷ y ∷ ys) (y ∷ put before row ys))) ≡ true
      placed true more = ap (λ c. is_some (cond c (Some row) (find is_at (y ∷ ys)))) here
      placed false more = found_before (is_at y) y (put before row ys) more

  pub there_joined : (row : A) (xs : List A) → is_at row ≡ true → is_some (find is_at (joined before is_at (Some row) xs)) ≡ true
  there_joined row xs here = go (is_some (find is_at xs)) refl
    where
      go : (b : Bool) → is_some (find is_at xs) ≡ b → is_some (find is_at (cond b xs (put before row xs))) ≡ true
      go true there = there
      go false there = put_there row xs here
