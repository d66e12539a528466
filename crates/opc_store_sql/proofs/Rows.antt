-- Rows of a table, after an edit.
use Rattle.std.proofs.Common.{
  ◌≡◌,
  ℤ,
  List,
  [],
  ◌∷◌,
  ◌++◌,
  map,
  filter,
  find,
  not,
  Bool,
  true,
  false,
  cond,
  ◌&&◌,
  ◌||◌,
  Some,
  unwrap_or,
  refl,
  sym,
  ap,
  subst,
  ◌∙◌,
  IsTrue,
  IsPermutation,
  Ordering,
  Less,
  Equal,
  Greater,
  is_eq,
}
use Rattle.std.proofs.lemmas.Bool.{and_parts}
use Rattle.std.proofs.lemmas.Cmp.{tied_itself}
use Rattle.std.specs.Ordering.{ordering_reverse, match_ordering}
use Rattle.std.specs.List.{AllByRecursion, list_any}
use Rattle.std.proofs.lemmas.List.Sorted.{
  IsPermutation-refl,
  IsPermutation-sym,
  IsPermutation-trans,
  IsPermutation-cons,
  IsPermutation-middle,
  IsPermutation-append_right,
  list_any-IsPermutation,
}
use Rattle.sqlite_value.specs.declared.value.Value.{Value}
use Rattle.sqlite_value.specs.declared.value.Value.TheVariants.{Null, Int, Real, Text, Blob}
use Rattle.sqlite_value.specs.Order.{Row, value_cmp}
use Rattle.sqlite_value.proofs.OrderLemmas.{value_cmp_total}
use Rattle.sqlite_trees.specs.Tree.{rowid, has_rowid, put_row, without_rowid}
use Rattle.sqlite_trees.specs.View.{is_int}
use Rattle.sqlite_trees.proofs.TreeLemmas.{IsTable-put_row, all-put_row}
use Rattle.sqlite_keyed.proofs.ListLemmas.{all_weaker, all_both, all-filter, all_map, along_permutation, ascending-filter}
use Rattle.sqlite_rules.specs.Edit.{id_in, is_taken, are_fresh, put_all, without_all, row_at}
use Rattle.sqlite_rules.specs.Calls.{ids_of}
use Rattle.opc_store_sql.specs.Rows.{IsKept}

-- ---- rows are added

same_false : (b : Bool) → not b ≡ true → b ≡ false
same_false true h = absurd cc
same_false false h = refl

put_fresh : (new : Row) (rows : List Row) → is_taken rows new ≡ false → IsPermutation (new ∷ rows) (put_row new rows)
put_fresh new [] h = IsPermutation-refl _
put_fresh new (r ∷ rows) h = go (value_cmp (rowid r) (rowid new)) (is_taken rows new) refl refl h (put_fresh new rows)
  where
    go : (o : Ordering) (later : Bool) → value_cmp (rowid r) (rowid new) ≡ o → is_taken rows new ≡ later
        → (is_eq o || later) ≡ false → (is_taken rows new ≡ false → IsPermutation (new ∷ rows) (put_row new rows))
        → IsPermutation (new ∷ r ∷ rows) (match_ordering o (r ∷ put_row new rows) (new ∷ rows) (new ∷ r ∷ rows))
    go Less later e t none more = IsPermutation-trans _ _ _
        (IsPermutation-sym _ _ (IsPermutation-middle (r ∷ []) new rows)) (IsPermutation-cons r _ _ (more (t ∙ none)))
    go Equal later e t none more = absurd cc
    go Greater later e t none more = IsPermutation-refl _

pub put_all_fresh : (news rows : List Row) → are_fresh rows news ≡ true → IsPermutation (news ++ rows) (put_all rows news)
put_all_fresh [] rows h = IsPermutation-refl _
put_all_fresh (n ∷ news) rows h =
    let both = and_parts _ _ h in
    let one = put_fresh n rows (same_false _ both.0) in
    IsPermutation-trans _ _ _ (IsPermutation-sym _ _ (IsPermutation-middle news n rows))
    (IsPermutation-trans _ _ _ (IsPermutation-append_right news _ _ one)
    (put_all_fresh news (put_row n rows) both.1))

pub put_all_kept : (news rows : List Row) → AllByRecursion (λ r. IsTrue (is_int (rowid r))) news → IsKept rows → IsKept (put_all rows news)
put_all_kept [] rows ints kept = kept
put_all_kept (n ∷ news) rows ints kept =
    put_all_kept news (put_row n rows) ints.1 (record { apart = IsTable-put_row n rows kept.apart; keyed = all-put_row _ n rows ints.0 kept.keyed })

-- ---- rows are removed

-- r has the rowid of a row that passes
abbrev hits : (Row → Bool) → List Row → Row → Bool
hits p xs r = list_any (λ id. has_rowid id r) (ids_of (filter p xs))

int_of : (v : Value) → IsTrue (is_int v) → Int (id_in v) ≡ v
int_of Null h = absurd cc
int_of (Int n) h = refl
int_of (Real x) h = absurd cc
int_of (Text t) h = absurd cc
int_of (Blob b) h = absurd cc

hits_cons : (p : Row → Bool) (x : Row) (xs : List Row) (r : Row) → hits p (x ∷ xs) r ≡ ((p x && has_rowid (id_in (rowid x)) r) || hits p xs r)
hits_cons p x xs r = go (p x)
  where
    go : (b : Bool) → list_any (λ id. has_rowid id r) (ids_of (cond b (x ∷ filter p xs) (filter p xs))) ≡ ((b && has_rowid (id_in (rowid x)) r) || hits p xs r)
    go true = refl
    go false = refl

tied : (x : Row) → IsTrue (is_int (rowid x)) → (r : Row) → has_rowid (id_in (rowid x)) r ≡ is_eq (value_cmp (rowid r) (rowid x))
tied x int r = ap (λ v. is_eq (value_cmp (rowid r) v)) (int_of (rowid x) int)

apart : (x r : Row) → IsTrue (is_int (rowid x)) → value_cmp (rowid x) (rowid r) ≡ Less → has_rowid (id_in (rowid x)) r ≡ false
apart x r int less = tied x int r ∙ ap is_eq (value_cmp_total.antisymm (rowid r) (rowid x) ∙ ap ordering_reverse less)

below : (x r : Row) → IsTrue (is_int (rowid r)) → value_cmp (rowid x) (rowid r) ≡ Less → has_rowid (id_in (rowid r)) x ≡ false
below x r int less = tied r int x ∙ ap is_eq less

none_hit : (p : Row → Bool) (x : Row) (xs : List Row) → AllByRecursion (λ r. IsTrue (is_int (rowid r))) xs
    → AllByRecursion (λ r. value_cmp (rowid x) (rowid r) ≡ Less) xs → hits p xs x ≡ false
none_hit p x [] ints up = refl
none_hit p x (y ∷ ys) ints up = hits_cons p y ys x ∙ rw (below x y ints.0 up.0, none_hit p x ys ints.1 up.1) (go (p y))
  where
    go : (b : Bool) → ((b && false) || false) ≡ false
    go true = refl
    go false = refl

and_true : (b : Bool) → ((b && true) || false) ≡ b
and_true true = refl
and_true false = refl

and_false : (b c : Bool) → ((b && false) || c) ≡ c
and_false true c = refl
and_false false c = refl

each_hit : (p : Row → Bool) (xs : List Row) → IsKept xs → AllByRecursion (λ r. hits p xs r ≡ p r) xs
each_hit p [] kept = tt
each_hit p (x ∷ xs) kept =
    let rest : IsKept xs = record { apart = kept.apart.1; keyed = kept.keyed.1 } in
    let itself : has_rowid (id_in (rowid x)) x ≡ true = tied x kept.keyed.0 x ∙ ap is_eq (tied_itself value_cmp_total (rowid x)) in (
      hits_cons p x xs x ∙ rw (itself, none_hit p x xs kept.keyed.1 kept.apart.0) (and_true (p x)),
      all_both _ _ (λ r. hits p (x ∷ xs) r ≡ p r)
          (λ r less same. hits_cons p x xs r ∙ rw (apart x r kept.keyed.0 less) (and_false (p x) (hits p xs r) ∙ same))
          xs kept.apart.0 (each_hit p xs rest),
    )

filter_on : {X : Type 0} (p q : X → Bool) (xs : List X) → AllByRecursion (λ x. p x ≡ q x) xs → filter p xs ≡ filter q xs
filter_on p q [] h = refl
filter_on p q (x ∷ xs) h = rw (h.0, filter_on p q xs h.1)

filter_twice : {X : Type 0} (p q : X → Bool) (xs : List X) → filter p (filter q xs) ≡ filter (λ x. q x && p x) xs
filter_twice p q [] = refl
filter_twice p q (x ∷ xs) = go (q x) (filter_twice p q xs)
  where
    go : (b : Bool) → filter p (filter q xs) ≡ filter (λ y. q y && p y) xs
        → filter p (cond b (x ∷ filter q xs) (filter q xs)) ≡ cond (b && p x) (x ∷ filter (λ y. q y && p y) xs)
        (filter (λ y. q y && p y) xs)
    go true more = rw more
    go false more = more

not_or : (a b : Bool) → (not a && not b) ≡ not (a || b)
not_or true b = refl
not_or false b = refl

pub without_filter : (ids : List ℤ) (rows : List Row) → without_all rows ids ≡ filter (λ r. not (list_any (λ id. has_rowid id r) ids)) rows
without_filter [] rows = sym (all_pass rows)
  where
    all_pass : (xs : List Row) → filter (λ r. true) xs ≡ xs
    all_pass [] = refl
    all_pass (x ∷ xs) = ap (λ l. x ∷ l) (all_pass xs)
without_filter (id ∷ ids) rows =
    without_filter ids (without_rowid id rows)
    ∙ (filter_twice (λ r. not (list_any (λ id. has_rowid id r) ids)) (λ r. not (has_rowid id r)) rows
    ∙ filter_same rows)
  where
    filter_same : (xs : List Row) → filter (λ r. not (has_rowid id r) && not (list_any (λ id. has_rowid id r) ids))
        xs ≡ filter (λ r. not (list_any (λ id. has_rowid id r) (id ∷ ids))) xs
    filter_same [] = refl
    filter_same (x ∷ xs) = rw (not_or (has_rowid id x) (list_any (λ id. has_rowid id x) ids), filter_same xs)

-- what stays is what does not pass
pub left_is : (p : Row → Bool) (rows found : List Row) → IsKept rows
    → IsPermutation (ids_of (filter p rows)) (ids_of found)
    → without_all rows (ids_of found) ≡ filter (λ r. not (p r)) rows
left_is p rows found kept same =
    without_filter (ids_of found) rows
    ∙ filter_on _ (λ r. not (p r)) rows (all_weaker _ _
    (λ r e. ap not (sym (list_any-IsPermutation (λ id. has_rowid id r) _ _ same) ∙ e)) rows (each_hit p rows kept))

pub filter_kept : (p : Row → Bool) (rows : List Row) → IsKept rows → IsKept (filter p rows)
filter_kept p rows kept = record { apart = ascending-filter _ p rows kept.apart; keyed = all-filter _ p rows kept.keyed }

-- each row is the one at its rowid
each_at : (xs : List Row) → IsKept xs → AllByRecursion (λ r. row_at xs (id_in (rowid r)) ≡ r) xs
each_at [] kept = tt
each_at (x ∷ xs) kept =
    let rest : IsKept xs = record { apart = kept.apart.1; keyed = kept.keyed.1 } in
    let itself : has_rowid (id_in (rowid x)) x ≡ true = tied x kept.keyed.0 x ∙ ap is_eq (tied_itself value_cmp_total (rowid x)) in
    let less = all_both _ _ (λ r. has_rowid (id_in (rowid r)) x ≡ false) (λ r l int. below x r int l) xs kept.apart.0 kept.keyed.1 in (
      ap (λ b. unwrap_or (cond b (Some x) (find (has_rowid (id_in (rowid x))) xs)) []) itself,
      all_both _ _ (λ r. row_at (x ∷ xs) (id_in (rowid r)) ≡ r)
          (λ r other same. ap (λ b. unwrap_or (cond b (Some x) (find (has_rowid (id_in (rowid r))) xs)) []) other
          ∙ same) xs less (each_at xs rest),
    )

pub all_pass : (p : Row → Bool) (xs : List Row) → AllByRecursion (λ r. p r ≡ true) (filter p xs)
all_pass p [] = tt
all_pass p (x ∷ xs) = go (p x) refl (all_pass p xs)
  where
    go : (b : Bool) → p x ≡ b → AllByRecursion (λ r. p r ≡ true) (filter p xs) → AllByRecursion (λ r. p r ≡ true) (cond b (x ∷ filter p xs) (filter p xs))
    go true e more = (e, more)
    go false e more = more

-- what holds of each member holds along a permutation
pub all_along : {X : Type 0} (P : X → Type 0) (xs ys : List X) → IsPermutation xs ys → AllByRecursion P xs → AllByRecursion P ys
all_along P = along_permutation (λ xs ys. AllByRecursion P xs → AllByRecursion P ys) (λ xs h. h)
    (λ x xs ys more h. (h.0, more h.1)) (λ x y xs h. (h.1.0, (h.0, h.1.1))) (λ xs ys zs a b h. b (a h))

-- the rows at the rowids of those that pass are those
pub taken_all : (P : Row → Type 0) (p : Row → Bool) (xs : List Row) (ids : List ℤ) → IsKept xs
    → AllByRecursion P (filter p xs) → IsPermutation (ids_of (filter p xs)) ids → AllByRecursion P (map (row_at xs) ids)
taken_all P p xs ids kept all same =
    let at = all-filter (λ r. row_at xs (id_in (rowid r)) ≡ r) p xs (each_at xs kept) in
    let each = all_both _ _ (λ r. P (row_at xs (id_in (rowid r)))) (λ r here yes. subst P (sym here) yes) (filter p xs) at all in
    let ids_all = all_map (λ id. P (row_at xs id)) (λ (r : Row). id_in (rowid r)) (filter p xs) each in
    all_map P (row_at xs) ids (all_along (λ id. P (row_at xs id)) _ ids same ids_all)
