-- An entry at its place in an access list.
use Rattle.std.proofs.Common.{◌≡◌, ℕ, ◌<◌, ◌≤◌, ◌+◌, List, [], ◌∷◌, length, get_or, set, zero, suc, Result, Ok, Err, All, refl, sym, ap, ◌∙◌, arith}
use Rattle.std.specs.BTreeSet.{replace_key}
use Rattle.std.specs.Cmp.{IsTotalOrder}
use Rattle.std.specs.Cmp.Lexicographic.{nat_list_cmp_total, options_total}
use Rattle.std.specs.List.{insert}
use Rattle.std.specs.List.Sorted.{IsSortedBy, IsBinarySearchResult, IsSearchInRange}
use Rattle.std.proofs.lemmas.Cmp.{on_total, then_total}
use Rattle.std.proofs.lemmas.List.Elements.{All-nil, All-cons, All-head, All-tail}
use Rattle.std.proofs.lemmas.List.Kept.{AllPairs-cons}
use Rattle.std.proofs.lemmas.List.Sorted.{searchable_from_sorted}
use Rattle.std.specs.Ordering.{match_ordering, is_lt, ordering_reverse}
use Rattle.std.specs.declared.cmp.Ordering.{Ordering}
use Rattle.std.specs.declared.cmp.Ordering.TheVariants.{Less, Equal, Greater}
use Rattle.opc_policy_members.specs.Access.{AreInOrder, entry_cmp}
use Rattle.opc_policy_members.specs.Places.{IsPlace}
use Rattle.opc_policy_members.specs.declared.entry.Entry.{Entry}

module _ {X : Type 0} (cmp : X → X → Ordering) (x : X) where
  -- in the place of the one that is the same
  pub set-place : (xs : List X) (i : ℕ) (d : X) → ((k : ℕ) → k < i → cmp x (get_or xs k d) ≡ Greater) → i < length xs
      → cmp x (get_or xs i d) ≡ Equal → set xs i x ≡ replace_key cmp xs x
  set-place [] i d before within same = absurd (omega (arith, within))
  set-place (y ∷ ys) zero d before within same = rw same refl
  set-place (y ∷ ys) (suc i) d before within same =
      rw (before 0 (omega arith)) (ap (λ zs. y ∷ zs) (set-place ys i d (λ k l. before (suc k) (omega (arith, l))) (omega (arith, within)) same))

  -- between those before it and those after it
  pub insert-place : (xs : List X) (i : ℕ) (d : X) → ((k : ℕ) → k < i → cmp x (get_or xs k d) ≡ Greater) → i ≤ length xs
      → (i < length xs → cmp x (get_or xs i d) ≡ Less) → insert xs i x ≡ replace_key cmp xs x
  insert-place [] zero d before within after = refl
  insert-place [] (suc i) d before within after = absurd (omega (arith, within))
  insert-place (y ∷ ys) zero d before within after = rw (after (omega arith)) refl
  insert-place (y ∷ ys) (suc i) d before within after =
      rw (before 0 (omega arith)) (ap (λ zs. y ∷ zs)
      (insert-place ys i d (λ k l. before (suc k) (omega (arith, l))) (omega (arith, within))
      (λ l. after (omega (arith, l)))))

pub order : IsTotalOrder entry_cmp
order = then_total (on_total (λ (e : Entry). e.id) nat_list_cmp_total) (on_total (λ (e : Entry). e.when) (options_total nat_list_cmp_total))

-- the converse
turned : (a b : Entry) (o : Ordering) → entry_cmp a b ≡ o → entry_cmp b a ≡ ordering_reverse o
turned a b o e = order.antisymm b a ∙ ap ordering_reverse e

sorted_entries : (entries : List Entry) → AreInOrder entries → IsSortedBy (λ (a b : Entry). is_lt (entry_cmp a b)) entries
sorted_entries entries h = λ k d low high. ap is_lt (turned (get_or entries k d) (get_or entries (k + 1) d) Less (h k (k + 1) d (omega arith) high))

-- what a binary search by this order finds
pub place_found : (new : Entry) (entries : List Entry) (r : Result ℕ ℕ) → AreInOrder entries
    → IsSearchInRange r (length entries) → IsBinarySearchResult (λ (y : Entry). entry_cmp y new) entries r
    → IsPlace new entries r
place_found new entries (Ok at) ordered within found = (
  within,
  λ k d l. sym (order.congr (get_or entries at d) new (get_or entries k d) (found d))
      ∙ turned (get_or entries k d) (get_or entries at d) Less (ordered k at d l within),
  λ d. turned (get_or entries at d) new Equal (found d),
)
place_found new entries (Err at) ordered within found =
    let parts = found (searchable_from_sorted order (λ (e : Entry). e) entries new (sorted_entries entries ordered)) in (
      within,
      λ k d l. turned (get_or entries k d) new Less (parts.0 k d (omega arith) l),
      λ d l. turned (get_or entries at d) new Greater (parts.1 at d (omega arith) l),
    )

-- a list of entries stays in order
in_order_after : (x : Entry) (xs : List Entry) → AreInOrder (x ∷ xs) → All (λ (y : Entry). entry_cmp x y ≡ Less) xs
in_order_after x xs h = λ k d l. h 0 (suc k) d (omega arith) (omega (arith, l))

in_order_rest : (x : Entry) (xs : List Entry) → AreInOrder (x ∷ xs) → AreInOrder xs
in_order_rest x xs h = λ i j d l m. h (suc i) (suc j) d (omega (arith, l)) (omega (arith, m))

in_order_cons : (x : Entry) (xs : List Entry) → All (λ (y : Entry). entry_cmp x y ≡ Less) xs → AreInOrder xs → AreInOrder (x ∷ xs)
in_order_cons x xs first rest = AllPairs-cons (λ (e f : Entry). entry_cmp e f ≡ Less) x xs first rest

all_with : (P : Entry → Type 0) (e : Entry) (xs : List Entry) → P e → All P xs → All P (replace_key entry_cmp xs e)
all_with P e [] here all = All-cons P e [] here all
all_with P e (x ∷ xs) here all = go (entry_cmp e x) (all_with P e xs here (All-tail P x xs all))
  where
    go : (o : Ordering) → All P (replace_key entry_cmp xs e) → All P (match_ordering o (e ∷ x ∷ xs) (e ∷ xs) (x ∷ replace_key entry_cmp xs e))
    go Less rest = All-cons P e (x ∷ xs) here all
    go Equal rest = All-cons P e xs here (All-tail P x xs all)
    go Greater rest = All-cons P x (replace_key entry_cmp xs e) (All-head P x xs all) rest

pub stays_in_order : (e : Entry) (xs : List Entry) → AreInOrder xs → AreInOrder (replace_key entry_cmp xs e)
stays_in_order e [] h = in_order_cons e [] (All-nil (λ (y : Entry). entry_cmp e y ≡ Less)) h
stays_in_order e (x ∷ xs) h = go (entry_cmp e x) refl (stays_in_order e xs (in_order_rest x xs h))
  where
    after : All (λ (y : Entry). entry_cmp x y ≡ Less) xs
    after = in_order_after x xs h

    go : (o : Ordering) → entry_cmp e x ≡ o → AreInOrder (replace_key entry_cmp xs e)
        → AreInOrder (match_ordering o (e ∷ x ∷ xs) (e ∷ xs) (x ∷ replace_key entry_cmp xs e))
    go Less at later = in_order_cons e (x ∷ xs)
        (All-cons (λ (y : Entry). entry_cmp e y ≡ Less) x xs at
        (λ k d l. order.trans e x (get_or xs k d) at (after k d l))) h
    go Equal at later = in_order_cons e xs (λ k d l. order.congr e x (get_or xs k d) at ∙ after k d l) (in_order_rest x xs h)
    go Greater at later = in_order_cons x (replace_key entry_cmp xs e) (all_with (λ (y : Entry). entry_cmp x y ≡ Less) e xs (turned e x Greater at) after) later

pub set_in_place : (e : Entry) (xs : List Entry) (at : ℕ) → IsPlace e xs (Ok at) → set xs at e ≡ replace_key entry_cmp xs e
set_in_place e xs at h = set-place entry_cmp e xs at e (λ k l. h.1 k e l) h.0 (h.2 e)

pub insert_in_place : (e : Entry) (xs : List Entry) (at : ℕ) → IsPlace e xs (Err at) → insert xs at e ≡ replace_key entry_cmp xs e
insert_in_place e xs at h = insert-place entry_cmp e xs at e (λ k l. h.1 k e l) h.0 (λ l. h.2 e l)
