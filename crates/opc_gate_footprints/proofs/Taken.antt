-- The first of some rows, chosen by their keys; and whether any other is among them.
use Rattle.std.proofs.Common.{◌≡◌, ℕ, zero, suc, Bool, true, false, cond, not, ◌&&◌, ◌||◌, List, [], ◌∷◌, filter, take, refl, ap, ap₂, sym, ◌∙◌}
use Rattle.std.specs.List.{AllByRecursion, list_any}
use Rattle.opc_rows.specs.Ordered.{Ascends}
use Rattle.opc_rows.proofs.Orders.{all_filter, all_weaker}

all_take : {A : Type 0} (P : A → Type 0) (n : ℕ) (xs : List A) → AllByRecursion P xs → AllByRecursion P (take n xs)
all_take P zero xs all = tt
all_take P (suc n) [] all = tt
all_take P (suc n) (x ∷ xs) all = (all.0, all_take P n xs all.1)

pub nothing_seen : {A : Type 0} (xs : List A) → filter (λ x. false) xs ≡ []
nothing_seen [] = refl
nothing_seen (x ∷ xs) = nothing_seen xs

filter_alike : {A : Type 0} (p q : A → Bool) (xs : List A) → AllByRecursion (λ x. p x ≡ q x) xs → filter p xs ≡ filter q xs
filter_alike p q [] same = refl
filter_alike p q (x ∷ xs) same = ap₂ (λ c ws. cond c (x ∷ ws) ws) same.0 (filter_alike p q xs same.1)

module _ {A : Type 0} (at : A → A → Bool) where
  none_at : (x : A) (ms : List A) → AllByRecursion (λ m. at m x ≡ false) ms → list_any (λ m. at m x) ms ≡ false
  none_at x [] none = refl
  none_at x (m ∷ ms) none = ap₂ (λ a b. a || b) none.0 (none_at x ms none.1)

  one_at : (a b : Bool) → a ≡ true → a || b ≡ true
  one_at true b h = refl
  one_at false b h = absurd (cc)

  or_later : (a b : Bool) → b ≡ true → a || b ≡ true
  or_later true b h = refl
  or_later false b h = h

  -- each of some rows is at one of their keys
  pub each_at : ((x : A) → at x x ≡ true) → (ms : List A) → AllByRecursion (λ x. list_any (λ m. at m x) ms ≡ true) ms
  each_at itself [] = tt
  each_at itself (m ∷ ms) = (
    one_at (at m m) (list_any (λ n. at n m) ms) (itself m),
    all_weaker (λ x. list_any (λ n. at n x) ms ≡ true) (λ x. list_any (λ n. at n x) (m ∷ ms) ≡ true)
        (λ x h. or_later (at m x) (list_any (λ n. at n x) ms) h) ms (each_at itself ms),
  )

  module _ (before : A → A → Bool) (itself : (x : A) → at x x ≡ true)
      (apart : (x y : A) → before x y ≡ true → at x y ≡ false)
      (apart_back : (x y : A) → before x y ≡ true → at y x ≡ false) where
    -- the first of those of a kind are the rows at their keys
    pub first_by_keys : (q : A → Bool) (n : ℕ) (xs : List A) → Ascends before xs
        → take n (filter q xs) ≡ filter (λ x. list_any (λ m. at m x) (take n (filter q xs))) xs
    first_by_keys q zero xs order = sym (nothing_seen xs)
    first_by_keys q (suc n) [] order = refl
    first_by_keys q (suc n) (x ∷ xs) order = go (q x) (first_by_keys q n xs order.1) (first_by_keys q (suc n) xs order.1)
      where
        here : (ms : List A) → ms ≡ filter (λ y. list_any (λ m. at m y) ms) xs → x ∷ ms ≡ filter (λ y. at x y || list_any (λ m. at m y) ms) (x ∷ xs)
        here ms more =
            ap (λ ws. x ∷ ws) (more ∙ filter_alike (λ y. list_any (λ m. at m y) ms)
            (λ y. at x y || list_any (λ m. at m y) ms) xs
            (all_weaker (λ y. before x y ≡ true)
            (λ y. list_any (λ m. at m y) ms ≡ at x y || list_any (λ m. at m y) ms)
            (λ y after. ap (λ c. c || list_any (λ m. at m y) ms) (sym (apart x y after))) xs order.0))
            ∙ ap (λ c. cond (c || list_any (λ m. at m x) ms) (x ∷ filter (λ y. at x y || list_any (λ m. at m y) ms) xs)
            (filter (λ y. at x y || list_any (λ m. at m y) ms) xs)) (sym (itself x))

        elsewhere : (ms : List A) → AllByRecursion (λ m. before x m ≡ true) ms
            → ms ≡ filter (λ y. list_any (λ m. at m y) ms) xs → ms ≡ filter (λ y. list_any (λ m. at m y) ms) (x ∷ xs)
        elsewhere ms after more =
            more ∙ ap (λ c. cond c (x ∷ filter (λ y. list_any (λ m. at m y) ms) xs)
            (filter (λ y. list_any (λ m. at m y) ms) xs))
            (sym (none_at x ms (all_weaker (λ m. before x m ≡ true) (λ m. at m x ≡ false)
            (λ m later. apart_back x m later) ms after)))

        go : (a : Bool) → take n (filter q xs) ≡ filter (λ y. list_any (λ m. at m y) (take n (filter q xs))) xs
            → take (suc n) (filter q xs) ≡ filter (λ y. list_any (λ m. at m y) (take (suc n) (filter q xs))) xs
            → take (suc n) (cond a (x ∷ filter q xs) (filter q xs)) ≡ filter
            (λ y. list_any (λ m. at m y) (take (suc n) (cond a (x ∷ filter q xs) (filter q xs)))) (x ∷ xs)
        go true first later = here (take n (filter q xs)) first
        go false first later = elsewhere (take (suc n) (filter q xs))
            (all_take (λ m. before x m ≡ true) (suc n) (filter q xs) (all_filter (λ m. before x m ≡ true) q xs order.0))
            later

module _ {A : Type 0} (m s p : A → Bool) where
  abbrev other : A → Bool
  other x = m x && not (p x)

  -- if none is this one, the first, if there is one, is another
  first_seen : (xs : List A) → AllByRecursion (λ x. p x ≡ false) xs
      → AllByRecursion (λ x. s x ≡ true) (take 1 (filter m xs)) → list_any other (filter s xs) ≡ list_any other xs
  first_seen [] others footprint = refl
  first_seen (x ∷ xs) others footprint = go (m x) (s x) refl refl footprint (first_seen xs others.1)
    where
      go : (a b : Bool) → m x ≡ a → s x ≡ b → AllByRecursion (λ y. s y ≡ true) (take 1 (cond a (x ∷ filter m xs) (filter m xs)))
          → (AllByRecursion (λ y. s y ≡ true) (take 1 (filter m xs)) → list_any other (filter s xs) ≡ list_any other xs)
          → list_any other (cond b (x ∷ filter s xs) (filter s xs)) ≡ (m x && not (p x)) || list_any other xs
      go true true is there footprint more = rw (is, others.0) refl
      go true false is there footprint more = let here : s x ≡ true = footprint.0 in absurd (cc)
      go false true is there footprint more = rw is (more footprint)
      go false false is there footprint more = rw is (more footprint)

  -- one of the first two is another, if there is another
  pub two_seen : (before : A → A → Bool) → ((x y : A) → p x ≡ true → before x y ≡ true → p y ≡ false) → (xs : List A)
      → Ascends before xs → AllByRecursion (λ x. s x ≡ true) (take 2 (filter m xs))
      → list_any other (filter s xs) ≡ list_any other xs
  two_seen before once [] order footprint = refl
  two_seen before once (x ∷ xs) order footprint = go (m x) (s x) (p x) refl refl refl footprint (two_seen before once xs order.1)
    where
      go : (a b c : Bool) → m x ≡ a → s x ≡ b → p x ≡ c → AllByRecursion (λ y. s y ≡ true) (take 2 (cond a (x ∷ filter m xs) (filter m xs)))
          → (AllByRecursion (λ y. s y ≡ true) (take 2 (filter m xs)) → list_any other (filter s xs) ≡ list_any other xs)
          → list_any other (cond b (x ∷ filter s xs) (filter s xs)) ≡ (m x && not (p x)) || list_any other xs
      go true true true is there keys footprint more =
          rw (is, keys)
          (first_seen xs (all_weaker (λ y. before x y ≡ true) (λ y. p y ≡ false) (λ y after. once x y keys after) xs
          order.0) footprint.1)
      go true true false is there keys footprint more = rw (is, keys) refl
      go true false c is there keys footprint more = let here : s x ≡ true = footprint.0 in absurd (cc)
      go false true c is there keys footprint more = rw is (more footprint)
      go false false c is there keys footprint more = rw is (more footprint)
