-- A list in the order of its keys, divided at the first member that passes a test.
use Rattle.std.proofs.Common.{
  ◌≡◌,
  List,
  [],
  ◌∷◌,
  ◌++◌,
  filter,
  find,
  not,
  length,
  Bool,
  true,
  false,
  cond,
  Some,
  None,
  refl,
  sym,
  ap,
  ap₂,
  subst,
  ◌∙◌,
  Ordering,
  Less,
  Equal,
  Greater,
  IsPermutation,
  ◌≤◌,
  arith,
}
use Rattle.std.specs.List.{AllByRecursion}
use Rattle.std.specs.Cmp.{IsTotalOrder}
use Rattle.std.specs.BTreeSet.{replace_key}
use Rattle.std.specs.Ordering.{match_ordering, ordering_reverse}
use Rattle.std.proofs.lemmas.List.Elements.{filter-append}
use Rattle.sqlite_keyed.proofs.ListLemmas.{filter_none, along_permutation}
use Rattle.opc_store_sql.specs.Order.{Rises}

-- what none passes is kept whole
pub keeps_all : {X : Type 0} (p : X → Bool) (xs : List X) → AllByRecursion (λ x. p x ≡ false) xs → filter (λ x. not (p x)) xs ≡ xs
keeps_all p [] h = refl
keeps_all p (x ∷ xs) h = rw (h.0, keeps_all p xs h.1)

module _ {X : Type 0} (cmp : X → X → Ordering) (p : X → Bool) where
  -- it passes, and no other does; a member with its key takes its place
  pub record Parts (xs : List X) (x : X) : Type 0 where
    pub prefix : List X
    pub back : List X
    pub whole : xs ≡ prefix ++ x ∷ back
    pub passes : p x ≡ true
    pub before : AllByRecursion (λ y. p y ≡ false) prefix
    pub after : AllByRecursion (λ y. p y ≡ false) back
    pub replaced : (y : X) → cmp y x ≡ Equal → replace_key cmp xs y ≡ prefix ++ y ∷ back

  in_middle : (P : X → Type 0) (prefix : List X) (x : X) (back : List X) → AllByRecursion P (prefix ++ x ∷ back) → P x
  in_middle P [] x back h = h.0
  in_middle P (y ∷ prefix) x back h = in_middle P prefix x back h.1

  module _ (total : IsTotalOrder cmp) (ties : (x y : X) → p x ≡ true → p y ≡ true → cmp x y ≡ Equal) where
    none_above : (x : X) (xs : List X) → p x ≡ true → AllByRecursion (λ y. cmp x y ≡ Less) xs → AllByRecursion (λ y. p y ≡ false) xs
    none_above x [] hit up = tt
    none_above x (y ∷ ys) hit up = (go (p y) refl, none_above x ys hit up.1)
      where
        go : (b : Bool) → p y ≡ b → b ≡ false
        go true e = absurd (let tie = ties x y hit e in let less = up.0 in cc)
        go false e = refl

    pub parts : (xs : List X) (x : X) → Rises cmp xs → find p xs ≡ Some x → Parts xs x
    parts [] x up found = absurd cc
    parts (z ∷ xs) x up found = go (p z) refl found (parts xs x up.1)
      where
        here : p z ≡ true → z ≡ x → Parts (z ∷ xs) x
        here hit same = subst (λ (y : X). Parts (z ∷ xs) y) same (record {
          prefix = [];
          back = xs;
          whole = refl;
          passes = hit;
          before = tt;
          after = none_above z xs hit up.0;
          replaced = λ y tie. ap (λ o. match_ordering o (y ∷ z ∷ xs) (y ∷ xs) (z ∷ replace_key cmp xs y)) tie;
        })

        later : p z ≡ false → Parts xs x → Parts (z ∷ xs) x
        later miss it =
            let less : cmp z x ≡ Less = in_middle (λ y. cmp z y ≡ Less) it.prefix x it.back
            (subst (λ (l : List X). AllByRecursion (λ y. cmp z y ≡ Less) l) it.whole up.0) in
            record {
              prefix = z ∷ it.prefix;
              back = it.back;
              whole = ap (λ (l : List X). z ∷ l) it.whole;
              passes = it.passes;
              before = (miss, it.before);
              after = it.after;
              replaced = λ y tie.
                  let more : cmp y z ≡ Greater = total.congr y x z tie ∙ (total.antisymm x z ∙ ap ordering_reverse less) in
                  ap (λ o. match_ordering o (y ∷ z ∷ xs) (y ∷ xs) (z ∷ replace_key cmp xs y)) more ∙ ap (λ (l : List X). z ∷ l) (it.replaced y tie);
            }

        go : (b : Bool) → p z ≡ b → cond b (Some z) (find p xs) ≡ Some x → (find p xs ≡ Some x → Parts xs x) → Parts (z ∷ xs) x
        go true e found more = here e (let same : z ≡ x = cc in same)
        go false e found more = later e (more found)

  -- it alone is selected
  pub picked : (xs : List X) (x : X) → Parts xs x → filter p xs ≡ x ∷ []
  picked xs x it =
      ap (filter p) it.whole
      ∙ (filter-append p it.prefix (x ∷ it.back)
      ∙ ap₂ (λ (a b : List X). a ++ b) (filter_none p it.prefix it.before)
      (ap (λ b. cond b (x ∷ filter p it.back) (filter p it.back)) it.passes
      ∙ ap (λ (l : List X). x ∷ l) (filter_none p it.back it.after)))

  -- and the others stay
  pub others_of : (xs : List X) (x : X) (it : Parts xs x) → filter (λ y. not (p y)) xs ≡ it.prefix ++ it.back
  others_of xs x it =
      ap (filter (λ y. not (p y))) it.whole
      ∙ (filter-append (λ y. not (p y)) it.prefix (x ∷ it.back)
      ∙ ap₂ (λ (a b : List X). a ++ b) (keeps_all p it.prefix it.before)
      (ap (λ b. cond (not b) (x ∷ filter (λ y. not (p y)) it.back) (filter (λ y. not (p y)) it.back)) it.passes
      ∙ keeps_all p it.back it.after))

  -- none passes
  pub none_picked : (xs : List X) → find p xs ≡ None → AllByRecursion (λ y. p y ≡ false) xs
  none_picked [] h = tt
  none_picked (x ∷ xs) h = go (p x) refl h (none_picked xs)
    where
      go : (b : Bool) → p x ≡ b → cond b (Some x) (find p xs) ≡ None
          → (find p xs ≡ None → AllByRecursion (λ y. p y ≡ false) xs) → (p x ≡ false)
          × AllByRecursion (λ y. p y ≡ false) xs
      go true e h more = absurd cc
      go false e h more = (e, more h)

-- what holds of each member holds of the one that is found
pub found_one : {X : Type 0} (P : X → Type 0) (p : X → Bool) (xs : List X) (x : X) → AllByRecursion P xs → find p xs ≡ Some x → P x
found_one P p [] x all found = absurd cc
found_one {X} P p (z ∷ xs) x all found = go (p z) found (found_one P p xs x all.1)
  where
    go : (b : Bool) → cond b (Some z) (find p xs) ≡ Some x → (find p xs ≡ Some x → P x) → P x
    go true e more = let same : z ≡ x = cc in subst P same all.0
    go false e more = more e

-- a list of at most one member has one permutation
pub short_same : {X : Type 0} (xs ys : List X) → IsPermutation xs ys → length xs ≤ 1 → ys ≡ xs
short_same {X} = along_permutation (λ (xs ys : List X). length xs ≤ 1 → ys ≡ xs) (λ xs h. refl)
    (λ x xs ys more h. ap (λ (l : List X). x ∷ l) (more (omega arith)))
    (λ x y xs h. absurd (omega arith)) (λ xs ys zs first last h. let same = first h in last (subst (λ (l : List X). length l ≤ 1) (sym same) h) ∙ same)
