-- What is put into a list in order comes last, if it is greater than all that is there.
use Rattle.std.proofs.Common.{◌≡◌, ◌++◌, Bool, true, false, cond, List, [], ◌∷◌, Some, Ordering, Less, Equal, Greater, find, refl, ap, ◌∙◌}
use Rattle.std.specs.BTreeSet.{insert_key, replace_key}
use Rattle.std.specs.Cmp.{IsTotalOrder}
use Rattle.std.specs.List.{AllByRecursion}
use Rattle.std.specs.Ordering.{is_lt, match_ordering, ordering_reverse}
use Rattle.opc_rows.specs.Ordered.{Ascends}

is_less : (o : Ordering) → is_lt o ≡ true → o ≡ Less
is_less Less h = refl
is_less Equal h = absurd (cc)
is_less Greater h = absurd (cc)

-- what holds of all of a list holds of the one in its middle
pub in_middle : {X : Type 0} (P : X → Type 0) (xs : List X) (y : X) (ys : List X) → AllByRecursion P (xs ++ y ∷ ys) → P y
in_middle P [] y ys all = all.0
in_middle P (x ∷ xs) y ys all = in_middle P xs y ys all.1

-- those before one in a list that ascends are before it
pub all_before : {X : Type 0} (before : X → X → Bool) (xs : List X) (y : X) (ys : List X)
    → Ascends before (xs ++ y ∷ ys) → AllByRecursion (λ x. before x y ≡ true) xs
all_before before [] y ys order = tt
all_before before (x ∷ xs) y ys order = (in_middle (λ z. before x z ≡ true) xs y ys order.0, all_before before xs y ys order.1)

module _ {X : Type 0} (cmp : X → X → Ordering) (total : IsTotalOrder cmp) where
  greater : (x y : X) → is_lt (cmp x y) ≡ true → cmp y x ≡ Greater
  greater x y less = total.antisymm y x ∙ ap ordering_reverse (is_less (cmp x y) less)

  pub insert_last : (xs : List X) (y : X) → AllByRecursion (λ x. is_lt (cmp x y) ≡ true) xs → insert_key cmp xs y ≡ xs ++ y ∷ []
  insert_last [] y all = refl
  insert_last (x ∷ xs) y all = ap (λ o. match_ordering o (y ∷ x ∷ xs) (x ∷ xs) (x ∷ insert_key cmp xs y))
      (greater x y all.0) ∙ ap (λ zs. x ∷ zs) (insert_last xs y all.1)

  pub replace_last : (xs : List X) (y : X) → AllByRecursion (λ x. is_lt (cmp x y) ≡ true) xs → replace_key cmp xs y ≡ xs ++ y ∷ []
  replace_last [] y all = refl
  replace_last (x ∷ xs) y all = ap (λ o. match_ordering o (y ∷ x ∷ xs) (y ∷ xs) (x ∷ replace_key cmp xs y))
      (greater x y all.0) ∙ ap (λ zs. x ∷ zs) (replace_last xs y all.1)

  -- and if one of its key is in the middle, it takes its place
  pub replace_middle : (xs : List X) (y z : X) (ys : List X) → AllByRecursion (λ x. is_lt (cmp x y) ≡ true) xs
      → cmp y z ≡ Equal → replace_key cmp (xs ++ z ∷ ys) y ≡ xs ++ y ∷ ys
  replace_middle [] y z ys all same = ap (λ o. match_ordering o (y ∷ z ∷ ys) (y ∷ ys) (z ∷ replace_key cmp ys y)) same
  replace_middle (x ∷ xs) y z ys all same =
      ap (λ o. match_ordering o (y ∷ x ∷ xs ++ z ∷ ys) (y ∷ xs ++ z ∷ ys) (x ∷ replace_key cmp (xs ++ z ∷ ys) y)) (greater x y all.0)
      ∙ ap (λ zs. x ∷ zs) (replace_middle xs y z ys all.1 same)

-- a look-up skips those that do not pass
pub find_past : {X : Type 0} (p : X → Bool) (xs ys : List X) → AllByRecursion (λ x. p x ≡ false) xs → find p (xs ++ ys) ≡ find p ys
find_past p [] ys none = refl
find_past p (x ∷ xs) ys none = go (p x) none.0 (find_past p xs ys none.1)
  where
    go : (b : Bool) → b ≡ false → find p (xs ++ ys) ≡ find p ys → cond b (Some x) (find p (xs ++ ys)) ≡ find p ys
    go true e more = absurd (cc)
    go false e more = more

pub all_of : {X : Type 0} (P Q : X → Type 0) → ((x : X) → P x → Q x) → (xs : List X) → AllByRecursion P xs → AllByRecursion Q xs
all_of P Q f [] all = tt
all_of P Q f (x ∷ xs) all = (f x all.0, all_of P Q f xs all.1)
