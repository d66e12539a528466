-- What is done to some elements of a list is done to those alone.
use Rattle.std.proofs.Common.{◌≡◌, Bool, true, false, cond, not, ◌&&◌, ◌||◌, List, [], ◌∷◌, map, filter, Option, Some, None, refl, ap, ap₂, sym, ◌∙◌}
use Rattle.std.specs.List.{AllByRecursion, find, list_any}
use Rattle.opc_rows.specs.Ordered.{Ascends, put, changed}
use Rattle.opc_rows.proofs.Orders.{all_weaker}

module _ {A : Type 0} where
  -- a look-up for what passes
  pub find_seen : (p s : A → Bool) → ((x : A) → p x ≡ true → s x ≡ true) → (xs : List A) → find p (filter s xs) ≡ find p xs
  find_seen p s sees [] = refl
  find_seen p s sees (x ∷ xs) = go (p x) (s x) refl refl (find_seen p s sees xs)
    where
      go : (a b : Bool) → p x ≡ a → s x ≡ b → find p (filter s xs) ≡ find p xs → find p (cond b (x ∷ filter s xs) (filter s xs)) ≡ cond a (Some x) (find p xs)
      go true true here there more = ap (λ c. cond c (Some x) (find p (filter s xs))) here
      go true false here there more = let seen : s x ≡ true = sees x here in absurd (cc)
      go false true here there more = ap (λ c. cond c (Some x) (find p (filter s xs))) here ∙ more
      go false false here there more = more

  -- all pass
  pub all_seen : (s : A → Bool) → ((x : A) → s x ≡ true) → (xs : List A) → filter s xs ≡ xs
  all_seen s sees [] = refl
  all_seen s sees (x ∷ xs) = ap (λ c. cond c (x ∷ filter s xs) (filter s xs)) (sees x) ∙ ap (λ ws. x ∷ ws) (all_seen s sees xs)

  -- two choices, in either order
  pub filter_swap : (p s : A → Bool) (xs : List A) → filter p (filter s xs) ≡ filter s (filter p xs)
  filter_swap p s [] = refl
  filter_swap p s (x ∷ xs) = go (p x) (s x) refl refl (filter_swap p s xs)
    where
      go : (a b : Bool) → p x ≡ a → s x ≡ b → filter p (filter s xs) ≡ filter s (filter p xs)
          → filter p (cond b (x ∷ filter s xs) (filter s xs)) ≡ filter s (cond a (x ∷ filter p xs) (filter p xs))
      go true true here there more = ap (λ c. cond c (x ∷ filter p (filter s xs)) (filter p (filter s xs))) here
          ∙ ap (λ ws. x ∷ ws) more ∙ ap (λ c. cond c (x ∷ filter s (filter p xs)) (filter s (filter p xs))) (sym there)
      go true false here there more = more ∙ ap (λ c. cond c (x ∷ filter s (filter p xs)) (filter s (filter p xs))) (sym there)
      go false true here there more = ap (λ c. cond c (x ∷ filter p (filter s xs)) (filter p (filter s xs))) here ∙ more
      go false false here there more = more

  -- what is left out is others
  pub filter_left : (p t : A → Bool) → ((x : A) → p x ≡ false → t x ≡ false) → (xs : List A) → filter t (filter p xs) ≡ filter t xs
  filter_left p t other [] = refl
  filter_left p t other (x ∷ xs) = go (p x) (t x) refl refl (filter_left p t other xs)
    where
      go : (a b : Bool) → p x ≡ a → t x ≡ b → filter t (filter p xs) ≡ filter t xs
          → filter t (cond a (x ∷ filter p xs) (filter p xs)) ≡ cond b (x ∷ filter t xs) (filter t xs)
      go true true here there more = ap (λ c. cond c (x ∷ filter t (filter p xs)) (filter t (filter p xs))) there ∙ ap (λ ws. x ∷ ws) more
      go true false here there more = ap (λ c. cond c (x ∷ filter t (filter p xs)) (filter t (filter p xs))) there ∙ more
      go false true here there more = let left : t x ≡ false = other x here in absurd (cc)
      go false false here there more = more

  -- what passes one test among those that are kept is what passes another among all
  pub filter_within : (p q s : A → Bool) (xs : List A)
      → AllByRecursion (λ x. (s x ≡ true → p x ≡ q x) × (s x ≡ false → q x ≡ false)) xs
      → filter p (filter s xs) ≡ filter q xs
  filter_within p q s [] each = refl
  filter_within p q s (x ∷ xs) each = go (s x) refl (filter_within p q s xs each.1)
    where
      go : (b : Bool) → s x ≡ b → filter p (filter s xs) ≡ filter q xs
          → filter p (cond b (x ∷ filter s xs) (filter s xs)) ≡ cond (q x) (x ∷ filter q xs) (filter q xs)
      go true there more = ap (λ c. cond c (x ∷ filter p (filter s xs)) (filter p (filter s xs))) (each.0.0 there) ∙ ap (λ ws. cond (q x) (x ∷ ws) ws) more
      go false there more = more ∙ ap (λ c. cond c (x ∷ filter q xs) (filter q xs)) (sym (each.0.1 there))

  -- a change of all
  pub map_seen : (f : A → A) (s : A → Bool) → ((x : A) → s (f x) ≡ s x) → (xs : List A) → map f (filter s xs) ≡ filter s (map f xs)
  map_seen f s blind [] = refl
  map_seen f s blind (x ∷ xs) = go (s x) refl (map_seen f s blind xs)
    where
      go : (b : Bool) → s x ≡ b → map f (filter s xs) ≡ filter s (map f xs) → map f (cond b (x ∷ filter s xs) (filter s xs)) ≡ filter s (f x ∷ map f xs)
      go true there more = ap (λ ws. f x ∷ ws) more ∙ ap (λ c. cond c (f x ∷ filter s (map f xs)) (filter s (map f xs))) (sym (blind x ∙ there))
      go false there more = more ∙ ap (λ c. cond c (f x ∷ filter s (map f xs)) (filter s (map f xs))) (sym (blind x ∙ there))

  pub map_left : (f : A → A) (t : A → Bool) → ((x : A) → t (f x) ≡ t x) → (xs : List A)
      → AllByRecursion (λ x. t x ≡ true → f x ≡ x) xs → filter t (map f xs) ≡ filter t xs
  map_left f t blind [] stays = refl
  map_left f t blind (x ∷ xs) stays = ap (λ c. cond c (f x ∷ filter t (map f xs)) (filter t (map f xs))) (blind x)
      ∙ go (t x) refl (map_left f t blind xs stays.1)
    where
      go : (b : Bool) → t x ≡ b → filter t (map f xs) ≡ filter t xs
          → cond b (f x ∷ filter t (map f xs)) (filter t (map f xs)) ≡ cond b (x ∷ filter t xs) (filter t xs)
      go true there more = ap (λ y. y ∷ filter t (map f xs)) (stays.0 there) ∙ ap (λ ws. x ∷ ws) more
      go false there more = more

  -- a change of one
  pub changed_seen : (p : A → Bool) (f : A → A) (s : A → Bool)
      → ((x : A) → p x ≡ true → (s x ≡ true) × (s (f x) ≡ true)) → (xs : List A)
      → changed p f (filter s xs) ≡ filter s (changed p f xs)
  changed_seen p f s sees [] = refl
  changed_seen p f s sees (x ∷ xs) = go (p x) (s x) refl refl (changed_seen p f s sees xs)
    where
      go : (a b : Bool) → p x ≡ a → s x ≡ b → changed p f (filter s xs) ≡ filter s (changed p f xs)
          → changed p f (cond b (x ∷ filter s xs) (filter s xs)) ≡ filter s (cond a (f x ∷ xs) (x ∷ changed p f xs))
      go true true here there more = ap (λ c. cond c (f x ∷ filter s xs) (x ∷ changed p f (filter s xs))) here
          ∙ ap (λ c. cond c (f x ∷ filter s xs) (filter s xs)) (sym (sees x here).1)
      go true false here there more = let seen : s x ≡ true = (sees x here).0 in absurd (cc)
      go false true here there more = ap (λ c. cond c (f x ∷ filter s xs) (x ∷ changed p f (filter s xs))) here
          ∙ ap (λ ws. x ∷ ws) more ∙ ap (λ c. cond c (x ∷ filter s (changed p f xs)) (filter s (changed p f xs)))
          (sym there)
      go false false here there more = more ∙ ap (λ c. cond c (x ∷ filter s (changed p f xs)) (filter s (changed p f xs))) (sym there)

  pub changed_left : (p : A → Bool) (f : A → A) (t : A → Bool)
      → ((x : A) → p x ≡ true → (t x ≡ false) × (t (f x) ≡ false)) → (xs : List A)
      → filter t (changed p f xs) ≡ filter t xs
  changed_left p f t other [] = refl
  changed_left p f t other (x ∷ xs) = go (p x) refl (changed_left p f t other xs)
    where
      go : (a : Bool) → p x ≡ a → filter t (changed p f xs) ≡ filter t xs → filter t (cond a (f x ∷ xs) (x ∷ changed p f xs)) ≡ filter t (x ∷ xs)
      go true here more = ap (λ c. cond c (f x ∷ filter t xs) (filter t xs)) (other x here).1
          ∙ ap (λ c. cond c (x ∷ filter t xs) (filter t xs)) (sym (other x here).0)
      go false here more = ap (λ ws. cond (t x) (x ∷ ws) ws) more

  -- one more
  pub put_left : (before : A → A → Bool) (x : A) (t : A → Bool) → t x ≡ false → (xs : List A) → filter t (put before x xs) ≡ filter t xs
  put_left before x t other [] = ap (λ c. cond c (x ∷ []) []) other
  put_left before x t other (y ∷ ys) = go (before x y) (put_left before x t other ys)
    where
      go : (a : Bool) → filter t (put before x ys) ≡ filter t ys → filter t (cond a (x ∷ y ∷ ys) (y ∷ put before x ys)) ≡ filter t (y ∷ ys)
      go true more = ap (λ c. cond c (x ∷ filter t (y ∷ ys)) (filter t (y ∷ ys))) other
      go false more = ap (λ ws. cond (t y) (y ∷ ws) ws) more

  module _ (before : A → A → Bool) (trans : (x y z : A) → before x y ≡ true → before y z ≡ true → before x z ≡ true) where
    -- it goes before all that are after the one that it is before
    put_first : (x : A) (ys : List A) (s : A → Bool) → AllByRecursion (λ z. before x z ≡ true) ys → put before x (filter s ys) ≡ x ∷ filter s ys
    put_first x [] s after = refl
    put_first x (y ∷ ys) s after = go (s y) (put_first x ys s after.1)
      where
        go : (b : Bool) → put before x (filter s ys) ≡ x ∷ filter s ys
            → put before x (cond b (y ∷ filter s ys) (filter s ys)) ≡ x ∷ cond b (y ∷ filter s ys) (filter s ys)
        go true more = ap (λ c. cond c (x ∷ y ∷ filter s ys) (y ∷ put before x (filter s ys))) after.0
        go false more = more

    pub put_seen : (x : A) (s : A → Bool) → s x ≡ true → (xs : List A) → Ascends before xs → put before x (filter s xs) ≡ filter s (put before x xs)
    put_seen x s sees [] order = ap (λ c. cond c (x ∷ []) []) (sym sees)
    put_seen x s sees (y ∷ ys) order = go (before x y) (s y) refl refl (put_seen x s sees ys order.1)
      where
        go : (a b : Bool) → before x y ≡ a → s y ≡ b → put before x (filter s ys) ≡ filter s (put before x ys)
            → put before x (cond b (y ∷ filter s ys) (filter s ys)) ≡ filter s (cond a (x ∷ y ∷ ys) (y ∷ put before x ys))
        go true true here there more =
            ap (λ c. cond c (x ∷ y ∷ filter s ys) (y ∷ put before x (filter s ys))) here
            ∙ ap (λ c. x ∷ cond c (y ∷ filter s ys) (filter s ys)) (sym there)
            ∙ ap (λ c. cond c (x ∷ filter s (y ∷ ys)) (filter s (y ∷ ys))) (sym sees)
        go true false here there more =
            put_first x ys s (all_weaker (λ z. before y z ≡ true) (λ z. before x z ≡ true) (λ z after. trans x y z here after) ys order.0)
            ∙ ap (λ c. x ∷ cond c (y ∷ filter s ys) (filter s ys)) (sym there)
            ∙ ap (λ c. cond c (x ∷ filter s (y ∷ ys)) (filter s (y ∷ ys))) (sym sees)
        go false true here there more =
            ap (λ c. cond c (x ∷ y ∷ filter s ys) (y ∷ put before x (filter s ys))) here
            ∙ ap (λ ws. y ∷ ws) more
            ∙ ap (λ c. cond c (y ∷ filter s (put before x ys)) (filter s (put before x ys))) (sym there)
        go false false here there more = more ∙ ap (λ c. cond c (y ∷ filter s (put before x ys)) (filter s (put before x ys))) (sym there)

  -- whether any passes: one, or any of the others
  abbrev pub passes : (A → Bool) → Option A → Bool
  passes q None = false
  passes q (Some x) = q x

  pub any_other : (q p : A → Bool) (xs : List A) → AllByRecursion (λ x. p x ≡ false) xs → list_any (λ x. q x && not (p x)) xs ≡ list_any q xs
  any_other q p [] none = refl
  any_other q p (x ∷ xs) none = go (q x) (p x) none.0 (any_other q p xs none.1)
    where
      go : (a b : Bool) → b ≡ false → list_any (λ y. q y && not (p y)) xs ≡ list_any q xs → (a && not b)
          || list_any (λ y. q y && not (p y)) xs ≡ a || list_any q xs
      go true false e more = refl
      go false false e more = more
      go a true e more = absurd (cc)

  pub any_split : (q p : A → Bool) (before : A → A → Bool) → ((x y : A) → p x ≡ true → before x y ≡ true → p y ≡ false) → (xs : List A) → Ascends before xs
      → list_any q xs ≡ list_any (λ x. q x && not (p x)) xs || passes q (find p xs)
  any_split q p before once [] order = refl
  any_split q p before once (x ∷ xs) order = go (q x) (p x) refl refl (any_split q p before once xs order.1)
    where
      go : (a b : Bool) → q x ≡ a → p x ≡ b → list_any q xs ≡ list_any (λ y. q y && not (p y)) xs || passes q (find p xs)
          → a || list_any q xs ≡ ((a && not b) || list_any (λ y. q y && not (p y)) xs) || passes q (cond b (Some x) (find p xs))
      go true true here there more = turned (list_any (λ y. q y && not (p y)) xs) (q x) here
        where
          turned : (o m : Bool) → m ≡ true → true ≡ (false || o) || m
          turned true m e = refl
          turned false m e = sym e
      go true false here there more = refl
      go false true here there more =
          sym (any_other q p xs (all_weaker (λ y. before x y ≡ true) (λ y. p y ≡ false)
          (λ y after. once x y there after) xs order.0)) ∙ turned (list_any (λ y. q y && not (p y)) xs) (q x) here
        where
          turned : (o m : Bool) → m ≡ false → o ≡ (false || o) || m
          turned true m e = refl
          turned false m e = sym e
      go false false here there more = more

  pub any_changed : (q p : A → Bool) (f : A → A) (before : A → A → Bool)
      → ((x y : A) → p x ≡ true → before x y ≡ true → p y ≡ false) → (c : A) (xs : List A) → Ascends before xs
      → find p xs ≡ Some c
      → list_any q (changed p f xs) ≡ list_any (λ x. q x && not (p x)) xs || q (f c)
  any_changed q p f before once c [] order at = absurd (cc)
  any_changed q p f before once c (x ∷ xs) order at = go (q x) (p x) refl refl (any_changed q p f before once c xs order.1) at
    where
      go : (a b : Bool) → q x ≡ a → p x ≡ b → (find p xs ≡ Some c → list_any q (changed p f xs) ≡ list_any (λ y. q y && not (p y)) xs || q (f c))
          → cond b (Some x) (find p xs) ≡ Some c
          → list_any q (cond b (f x ∷ xs) (x ∷ changed p f xs)) ≡ ((a && not b) || list_any (λ y. q y && not (p y)) xs) || q (f c)
      go a true here there more at =
          let is : x ≡ c = cc in
          ap (λ m. m || list_any q xs) (ap (λ y. q (f y)) is)
          ∙ ap (λ o. q (f c) || o)
          (sym (any_other q p xs (all_weaker (λ y. before x y ≡ true) (λ y. p y ≡ false)
          (λ y after. once x y there after) xs order.0)))
          ∙ turned a (q (f c)) (list_any (λ y. q y && not (p y)) xs)
        where
          turned : (a m o : Bool) → m || o ≡ ((a && false) || o) || m
          turned true true true = refl
          turned true true false = refl
          turned true false true = refl
          turned true false false = refl
          turned false true true = refl
          turned false true false = refl
          turned false false true = refl
          turned false false false = refl
      go true false here there more at = ap (λ m. m || list_any q (changed p f xs)) here
      go false false here there more at = ap (λ m. m || list_any q (changed p f xs)) here ∙ more at

  -- the element that is found is the only one of its kind
  abbrev pub listed : Option A → List A
  listed None = []
  listed (Some x) = x ∷ []

  none_there : (p : A → Bool) (xs : List A) → AllByRecursion (λ x. p x ≡ false) xs → filter p xs ≡ []
  none_there p [] none = refl
  none_there p (x ∷ xs) none = ap (λ c. cond c (x ∷ filter p xs) (filter p xs)) none.0 ∙ none_there p xs none.1

  pub filter_one : (p : A → Bool) (before : A → A → Bool) → ((x y : A) → p x ≡ true → before x y ≡ true → p y ≡ false)
      → (xs : List A) → Ascends before xs → filter p xs ≡ listed (find p xs)
  filter_one p before once [] order = refl
  filter_one p before once (x ∷ xs) order = go (p x) refl (filter_one p before once xs order.1)
    where
      go : (a : Bool) → p x ≡ a → filter p xs ≡ listed (find p xs) → cond a (x ∷ filter p xs) (filter p xs) ≡ listed (cond a (Some x) (find p xs))
      go true here more = ap (λ ws. x ∷ ws)
          (none_there p xs (all_weaker (λ y. before x y ≡ true) (λ y. p y ≡ false) (λ y after. once x y here after) xs
          order.0))
      go false here more = more

  -- each element is found by its own key, if no two have one key
  pub found_each : (at : A → A → Bool) (before : A → A → Bool) → ((x : A) → at x x ≡ true)
      → ((x y : A) → before x y ≡ true → at x y ≡ false) → (xs : List A) → Ascends before xs
      → AllByRecursion (λ x. find (λ y. at y x) xs ≡ Some x) xs
  found_each at before itself apart [] order = tt
  found_each at before itself apart (x ∷ xs) order = (
    ap (λ c. cond c (Some x) (find (λ y. at y x) xs)) (itself x),
    further xs order.0 (found_each at before itself apart xs order.1),
  )
    where
      further : (ys : List A) → AllByRecursion (λ y. before x y ≡ true) ys
          → AllByRecursion (λ y. find (λ z. at z y) xs ≡ Some y) ys
          → AllByRecursion (λ y. find (λ z. at z y) (x ∷ xs) ≡ Some y) ys
      further [] after found = tt
      further (y ∷ ys) after found = (ap (λ c. cond c (Some x) (find (λ z. at z y) xs)) (apart x y after.0) ∙ found.0, further ys after.1 found.1)

  -- whether any passes, if all that pass are kept
  pub any_seen : (q s : A → Bool) (xs : List A) → AllByRecursion (λ x. q x ≡ true → s x ≡ true) xs → list_any q (filter s xs) ≡ list_any q xs
  any_seen q s [] seen = refl
  any_seen q s (x ∷ xs) seen = go (q x) (s x) refl refl (any_seen q s xs seen.1)
    where
      go : (a b : Bool) → q x ≡ a → s x ≡ b → list_any q (filter s xs) ≡ list_any q xs
          → list_any q (cond b (x ∷ filter s xs) (filter s xs)) ≡ a || list_any q xs
      go a true here there more = ap₂ (λ c d. c || d) here more
      go true false here there more = let is : s x ≡ true = seen.0 here in absurd (cc)
      go false false here there more = more

  -- those of a kind, by the keys of those that are of it
  pub filter_keyed : (q : A → Bool) (at : A → A → Bool) (xs ys : List A)
      → AllByRecursion (λ x. find (λ y. at y x) xs ≡ Some x) ys
      → filter (λ x. passes q (find (λ y. at y x) xs)) ys ≡ filter q ys
  filter_keyed q at xs [] found = refl
  filter_keyed q at xs (y ∷ ys) found = ap₂ (λ c ws. cond c (y ∷ ws) ws) (ap (passes q) found.0) (filter_keyed q at xs ys found.1)
