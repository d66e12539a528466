-- Members that are put one after another, in whatever order: they are the list in the order of their keys.
use Rattle.std.proofs.Common.{◌≡◌, List, [], ◌∷◌, ◌++◌, false, not, sym, ap, subst, ◌∙◌, IsPermutation, Ordering, is_eq}
use Rattle.std.specs.List.{AllByRecursion}
use Rattle.std.specs.Cmp.{IsTotalOrder}
use Rattle.std.specs.BTreeSet.{replace_key}
use Rattle.std.proofs.lemmas.List.Sorted.{IsPermutation-sym, IsPermutation-trans, IsPermutation-refl, IsPermutation-middle, IsPermutation-append}
use Rattle.sqlite_keyed.proofs.ListLemmas.{all_both, all_weaker, filter_all}
use Rattle.sqlite_keyed.proofs.SortLemmas.{HasNoTies}
use Rattle.opc_store_sql.specs.Order.{Rises}
use Rattle.opc_store_sql.proofs.Rows.{all_along}
use Rattle.opc_store_sql.proofs.Sets.{others, replaced_is, replaced_rises}
use Rattle.opc_store_sql.proofs.Sorting.{apart_along, in_order, no_ties}

module _ {X : Type 0} (cmp : X → X → Ordering) (total : IsTotalOrder cmp) where
  abbrev pub put_all : List X → List X → List X
  put_all before [] = before
  put_all before (x ∷ xs) = put_all (replace_key cmp before x) xs

  pub put_rises : (before xs : List X) → Rises cmp before → Rises cmp (put_all before xs)
  put_rises before [] up = up
  put_rises before (x ∷ xs) up = put_rises (replace_key cmp before x) xs (replaced_rises cmp total x before up)

  -- no member has its key
  abbrev pub IsApartFrom : List X → X → Type 0
  IsApartFrom before x = AllByRecursion (λ y. is_eq (cmp y x) ≡ false) before

  nothing_goes : (before : List X) (x : X) → IsApartFrom before x → others cmp total x before ≡ before
  nothing_goes before x apart = filter_all _ before (all_weaker _ _ (λ y differs. ap not differs) before apart)

  pub one_put : (before : List X) (x : X) → Rises cmp before → IsApartFrom before x → IsPermutation (replace_key cmp before x) (x ∷ before)
  one_put before x up apart = subst (λ (l : List X). IsPermutation (replace_key cmp before x) (x ∷ l))
      (nothing_goes before x apart) (replaced_is cmp total x before up)

  -- with one more that is apart from those to come, all before are
  pub still_apart : (before xs : List X) (x : X) → Rises cmp before → IsApartFrom before x
      → AllByRecursion (λ z. is_eq (cmp x z) ≡ false) xs → AllByRecursion (IsApartFrom before) xs
      → AllByRecursion (IsApartFrom (replace_key cmp before x)) xs
  still_apart before xs x up apart first rest =
      let same = IsPermutation-sym _ _ (one_put before x up apart) in
      all_both (λ z. is_eq (cmp x z) ≡ false) (IsApartFrom before) (IsApartFrom (replace_key cmp before x))
      (λ z here there. all_along _ _ _ same (here, there)) xs first rest

  pub put_same : (before xs : List X) → Rises cmp before → HasNoTies cmp total xs
      → AllByRecursion (IsApartFrom before) xs → IsPermutation (put_all before xs) (before ++ xs)
  put_same before [] up alone apart = subst (IsPermutation before) (sym (Rattle.std.proofs.Common.append-nil before)) (IsPermutation-refl before)
  put_same before (x ∷ xs) up alone apart =
      let next = replace_key cmp before x in
      let more = put_same next xs (replaced_rises cmp total x before up) alone.1 (still_apart before xs x up apart.0 alone.0 apart.1) in
      let prefix : IsPermutation (next ++ xs) ((x ∷ before) ++ xs) =
      IsPermutation-append next (x ∷ before) xs xs (one_put before x up apart.0) (IsPermutation-refl xs) in
      IsPermutation-trans _ _ _ more (IsPermutation-trans _ _ _ prefix (IsPermutation-sym _ _ (IsPermutation-middle before x xs)))

  pub none_apart : (xs : List X) → AllByRecursion (IsApartFrom []) xs
  none_apart [] = tt
  none_apart (x ∷ xs) = (tt, none_apart xs)

  -- members of a list, without ties, put in any order
  pub all_same : (xs : List X) → HasNoTies cmp total xs → IsPermutation (put_all [] xs) xs
  all_same xs alone = put_same [] xs tt alone (none_apart xs)

  pub all_put : (xs ys : List X) → Rises cmp ys → IsPermutation ys xs → put_all [] xs ≡ ys
  all_put xs ys up same =
      let alone : HasNoTies cmp total xs = (apart_along cmp total ys xs same).1 (no_ties cmp total ys up) in
      sym (in_order cmp total (put_all [] xs) xs (put_rises [] xs tt) (all_same xs alone)) ∙ in_order cmp total ys xs up same
