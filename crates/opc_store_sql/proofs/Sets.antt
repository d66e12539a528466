-- Lists whose keys come once, and what putting a member makes of them.
use Rattle.std.proofs.Common.{
  ◌≡◌,
  ℕ,
  List,
  [],
  ◌∷◌,
  filter,
  not,
  ◌&&◌,
  Bool,
  true,
  false,
  cond,
  refl,
  sym,
  ap,
  ◌∙◌,
  suc,
  length,
  ◌≤◌,
  ◌<◌,
  IsPermutation,
  Ordering,
  Less,
  Equal,
  Greater,
  is_eq,
  arith,
}
use Rattle.std.specs.List.{AllByRecursion, AllPairs, slice_index_or}
use Rattle.std.specs.Cmp.{IsTotalOrder}
use Rattle.sqlite_keyed.proofs.ListLemmas.{IsPermutation-same}
use Rattle.std.proofs.lemmas.Cmp.{tied_back, nat_list_cmp_total}
use Rattle.std.specs.BTreeSet.{insert_key, replace_key}
use Rattle.std.specs.Ordering.{match_ordering, ordering_reverse, ordering_then}
use Rattle.opc_store_sql.specs.Order.{Rises, text_cmp}
use Rattle.std.proofs.lemmas.List.Sorted.{IsPermutation-refl, IsPermutation-trans, IsPermutation-cons, IsPermutation-middle}

-- ---- a key comes once

one_more : {X : Type 0} (cmp : X → X → Ordering) (same : X → X → Bool) (key : X)
    → ((x : X) → same x key ≡ true → cmp x key ≡ Equal) → IsTotalOrder cmp → (x : X) (xs : List X)
    → same x key ≡ true → AllByRecursion (λ y. cmp x y ≡ Less) xs → filter (λ y. same y key) xs ≡ []
one_more cmp same key means total x [] h up = refl
one_more cmp same key means total x (y ∷ ys) h up = go (same y key) refl (one_more cmp same key means total x ys h up.1)
  where
    go : (b : Bool) → same y key ≡ b → filter (λ z. same z key) ys ≡ [] → cond b (y ∷ filter (λ z. same z key) ys) (filter (λ z. same z key) ys) ≡ []
    go false e more = more
    go true e more = absurd (let less = total.congr x key y (means x h) in
        let tie = tied_back total y key (means y e) in let both : cmp x y ≡ Equal = less ∙ tie in let first =
        up.0 in cc)

pub comes_once : {X : Type 0} (cmp : X → X → Ordering) (same : X → X → Bool) (key : X)
    → ((x : X) → same x key ≡ true → cmp x key ≡ Equal) → IsTotalOrder cmp → (xs : List X)
    → Rises cmp xs → length (filter (λ y. same y key) xs) ≤ 1
comes_once cmp same key means total [] up = omega arith
comes_once cmp same key means total (x ∷ xs) up = go (same x key) refl (comes_once cmp same key means total xs up.1)
  where
    go : (b : Bool) → same x key ≡ b → length (filter (λ y. same y key) xs) ≤ 1
        → length (cond b (x ∷ filter (λ y. same y key) xs) (filter (λ y. same y key) xs)) ≤ 1
    go false e more = more
    go true e more = rw (one_more cmp same key means total x xs e up.0) (omega arith)

equal_is : (o : Ordering) → is_eq o ≡ true → o ≡ Equal
equal_is Less h = absurd cc
equal_is Equal h = refl
equal_is Greater h = absurd cc

pub text_total : IsTotalOrder text_cmp
text_total = nat_list_cmp_total

-- ---- a member is put at its key

module _ {X : Type 0} (cmp : X → X → Ordering) (total : IsTotalOrder cmp) where
  -- the members with another key
  abbrev pub others : X → List X → List X
  others new xs = filter (λ x. not (is_eq (cmp x new))) xs

  above : (new x : X) → cmp new x ≡ Less → is_eq (cmp x new) ≡ false
  above new x less = ap is_eq (total.antisymm x new ∙ ap ordering_reverse less)

  below : (new x : X) → cmp new x ≡ Greater → is_eq (cmp x new) ≡ false
  below new x more = ap is_eq (total.antisymm x new ∙ ap ordering_reverse more)

  -- all above it
  all_above : (new : X) (xs : List X) → AllByRecursion (λ x. cmp new x ≡ Less) xs → others new xs ≡ xs
  all_above new [] h = refl
  all_above new (x ∷ xs) h = rw (above new x h.0, all_above new xs h.1)

  raise : (new x : X) (xs : List X) → cmp new x ≡ Less → AllByRecursion (λ y. cmp x y ≡ Less) xs → AllByRecursion (λ y. cmp new y ≡ Less) xs
  raise new x [] less h = tt
  raise new x (y ∷ xs) less h = (total.trans new x y less h.0, raise new x xs less h.1)

  level : (new x : X) (xs : List X) → cmp new x ≡ Equal → AllByRecursion (λ y. cmp x y ≡ Less) xs → AllByRecursion (λ y. cmp new y ≡ Less) xs
  level new x [] tie h = tt
  level new x (y ∷ xs) tie h = (total.congr new x y tie ∙ h.0, level new x xs tie h.1)

  tie_back : (new x : X) → cmp new x ≡ Equal → is_eq (cmp x new) ≡ true
  tie_back new x tie = ap is_eq (total.antisymm x new ∙ ap ordering_reverse tie)

  -- it is added, and the one with its key is removed
  pub replaced_is : (new : X) (xs : List X) → Rises cmp xs → IsPermutation (replace_key cmp xs new) (new ∷ others new xs)
  replaced_is new [] up = IsPermutation-refl _
  replaced_is new (x ∷ xs) up = go (cmp new x) refl (replaced_is new xs up.1)
    where
      go : (o : Ordering) → cmp new x ≡ o → IsPermutation (replace_key cmp xs new) (new ∷ others new xs)
          → IsPermutation (match_ordering o (new ∷ x ∷ xs) (new ∷ xs) (x ∷ replace_key cmp xs new)) (new ∷ others new (x ∷ xs))
      go Less e more = IsPermutation-same _ _ (ap (λ (l : List X). new ∷ l) (sym (all_above new (x ∷ xs) (e, raise new x xs e up.0))))
      go Equal e more = IsPermutation-same _ _ (ap (λ (l : List X). new ∷ l) (rw (tie_back new x e) (sym (all_above new xs (level new x xs e up.0)))))
      go Greater e more = rw (below new x e) (IsPermutation-trans _ _ _ (IsPermutation-cons x _ _ more) (IsPermutation-middle (x ∷ []) new (others new xs)))

  pub all_replaced : (P : X → Type 0) (new : X) (xs : List X) → P new → AllByRecursion P xs → AllByRecursion P (replace_key cmp xs new)
  all_replaced P new [] p h = (p, tt)
  all_replaced P new (x ∷ xs) p h = go (cmp new x) (all_replaced P new xs p h.1)
    where
      go : (o : Ordering) → AllByRecursion P (replace_key cmp xs new)
          → AllByRecursion P (match_ordering o (new ∷ x ∷ xs) (new ∷ xs) (x ∷ replace_key cmp xs new))
      go Less more = (p, h)
      go Equal more = (p, h.1)
      go Greater more = (h.0, more)

  -- the order stays
  pub replaced_rises : (new : X) (xs : List X) → Rises cmp xs → Rises cmp (replace_key cmp xs new)
  replaced_rises new [] up = (tt, tt)
  replaced_rises new (x ∷ xs) up = go (cmp new x) refl (replaced_rises new xs up.1)
    where
      go : (o : Ordering) → cmp new x ≡ o → Rises cmp (replace_key cmp xs new)
          → Rises cmp (match_ordering o (new ∷ x ∷ xs) (new ∷ xs) (x ∷ replace_key cmp xs new))
      go Less e more = ((e, raise new x xs e up.0), up)
      go Equal e more = (level new x xs e up.0, up.1)
      go Greater e more = (all_replaced (λ y. cmp x y ≡ Less) new xs (total.antisymm x new ∙ ap ordering_reverse e) up.0, more)

  first_above : (new : X) (xs : List X) → AllByRecursion (λ x. cmp new x ≡ Less) xs → replace_key cmp xs new ≡ new ∷ xs
  first_above new [] h = refl
  first_above new (x ∷ xs) h = ap (λ o. match_ordering o (new ∷ x ∷ xs) (new ∷ xs) (x ∷ replace_key cmp xs new)) h.0

  -- it makes no difference whether the one with its key is removed first
  pub replaced_after : (new : X) (xs : List X) → Rises cmp xs → replace_key cmp (others new xs) new ≡ replace_key cmp xs new
  replaced_after new [] up = refl
  replaced_after new (x ∷ xs) up = go (cmp new x) refl (replaced_after new xs up.1)
    where
      go : (o : Ordering) → cmp new x ≡ o → replace_key cmp (others new xs) new ≡ replace_key cmp xs new
          → replace_key cmp (others new (x ∷ xs)) new ≡ match_ordering o (new ∷ x ∷ xs) (new ∷ xs) (x ∷ replace_key cmp xs new)
      go Less e more =
          let all = raise new x xs e up.0 in
          ap (λ (l : List X). replace_key cmp l new) (all_above new (x ∷ xs) (e, all)) ∙ first_above new (x ∷ xs) (e, all)
      go Equal e more =
          let all = level new x xs e up.0 in
          let gone : others new (x ∷ xs) ≡ xs = rw (tie_back new x e) (all_above new xs all) in
          ap (λ (l : List X). replace_key cmp l new) gone ∙ first_above new xs all
      go Greater e more =
          let stays : others new (x ∷ xs) ≡ x ∷ others new xs = rw (below new x e) in
          ap (λ (l : List X). replace_key cmp l new) stays
          ∙ (ap (λ o. match_ordering o (new ∷ x ∷ others new xs) (new ∷ others new xs)
          (x ∷ replace_key cmp (others new xs) new)) e ∙ ap (λ (l : List X). x ∷ l) more)

  -- at most one has a key
  pub one_at : (new : X) (xs : List X) → Rises cmp xs → length (filter (λ x. is_eq (cmp x new)) xs) ≤ 1
  one_at new = comes_once cmp (λ x y. is_eq (cmp x y)) new (λ x h. equal_is _ h) total

-- if equal keys are equal members, it makes no difference which of the two stays
pub inserted_same : {X : Type 0} (cmp : X → X → Ordering) → ((x y : X) → cmp x y ≡ Equal → x ≡ y)
    → (new : X) (xs : List X) → insert_key cmp xs new ≡ replace_key cmp xs new
inserted_same cmp same new [] = refl
inserted_same cmp same new (x ∷ xs) = go (cmp new x) refl (inserted_same cmp same new xs)
  where
    go : (o : Ordering) → cmp new x ≡ o → insert_key cmp xs new ≡ replace_key cmp xs new
        → match_ordering o (new ∷ x ∷ xs) (x ∷ xs) (x ∷ insert_key cmp xs new) ≡ match_ordering o (new ∷ x ∷ xs) (new ∷ xs) (x ∷ replace_key cmp xs new)
    go Less e more = refl
    go Equal e more = ap (λ y. y ∷ xs) (sym (same new x e))
    go Greater e more = ap (λ l. x ∷ l) more

-- two orders in turn tie if both do
pub then_eq : (a b : Ordering) → is_eq (ordering_then a b) ≡ (is_eq a && is_eq b)
then_eq Less b = refl
then_eq Equal b = refl
then_eq Greater b = refl

-- a list whose members are below all later ones rises
pub pairs_rise : {X : Type 0} (cmp : X → X → Ordering) (xs : List X) → AllPairs (λ a b. cmp a b ≡ Less) xs → Rises cmp xs
pairs_rise cmp [] h = tt
pairs_rise {X} cmp (x ∷ xs) h = (
  first xs (λ i d low. h 0 (suc i) d (omega arith) (omega arith)),
  pairs_rise cmp xs (λ i j d less low. h (suc i) (suc j) d (omega arith) (omega arith)),
)
  where
    first : (ys : List X) → ((i : ℕ) (d : X) → i < length ys → cmp x (slice_index_or ys i d) ≡ Less) → AllByRecursion (λ y. cmp x y ≡ Less) ys
    first [] all = tt
    first (y ∷ ys) all = (all 0 y (omega arith), first ys (λ i d low. all (suc i) d (omega arith)))
