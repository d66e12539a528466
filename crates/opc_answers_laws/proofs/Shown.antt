-- Rows with their numbers, from a number on, those that meet a test, and the first of these.
use Rattle.std.proofs.Common.{
  ◌≡◌,
  ◌≤◌,
  ◌<◌,
  ◌+◌,
  ◌-◌,
  ◌∙◌,
  ◌∷◌,
  ◌⊎◌,
  ℕ,
  zero,
  suc,
  Bool,
  true,
  List,
  [],
  Some,
  All,
  Contains,
  ap,
  arith,
  drop,
  filter,
  get_or,
  inl,
  inr,
  length,
  rules,
  slice_get,
  subst,
  sym,
  take,
}
use Rattle.std.proofs.Math.Nat.{eq-or-lt_of_le}
use Rattle.std.specs.List.{AllPairs, enumerate_from}
use Rattle.std.proofs.lemmas.Bool.{cond_both}
use Rattle.std.proofs.lemmas.List.{length-drop, take_all}
use Rattle.std.proofs.lemmas.List.Elements.{All-cons, All-drop, All-filter, All-nil, All-take, All-weaker, filter_passes}
use Rattle.std.proofs.lemmas.List.FromFn.{length-enumerate_from}
use Rattle.std.proofs.lemmas.List.Kept.{AllPairs-cons, AllPairs-filter}
use Rattle.opc_state.specs.Loads.{numbered}
use Rattle.opc_state.specs.declared.account.AccountRow.{AccountRow}
use Rattle.opc_account.specs.Filters.{meets, met}
use Rattle.opc_account.specs.Queries.{first_number, rows_from}
use Rattle.opc_answers_laws.specs.AccountLaws.{IsAskedFor, IsStored, RowsAreShownInOrder, ShownRowsAreStored, StoredRowsAreShown}

abbrev Row : Type 0
Row = ℕ × AccountRow

-- a row has its place, if the first has this number
abbrev Holds : ℕ → List AccountRow → Row → Type 0
Holds k xs r = (k ≤ r.0) × (slice_get xs (r.0 - k) ≡ Some r.1)

on : (k : ℕ) (r : Row) → k + 1 ≤ r.0 → r.0 - k ≡ suc (r.0 - (k + 1))
on k r le = omega (arith, le)

further : (k : ℕ) (x : AccountRow) (xs : List AccountRow) (r : Row) → Holds (k + 1) xs r → Holds k (x ∷ xs) r
further k x xs r h = (omega (arith, h.0), ap (slice_get (x ∷ xs)) (on k r h.0) ∙ h.1)

nearer : (k : ℕ) (x : AccountRow) (xs : List AccountRow) (r : Row) → k + 1 ≤ r.0 → Holds k (x ∷ xs) r → Holds (k + 1) xs r
nearer k x xs r le h = (le, ap (slice_get (x ∷ xs)) (sym (on k r le)) ∙ h.1)

all_hold : (k : ℕ) (xs : List AccountRow) → All (Holds k xs) (enumerate_from k xs)
all_hold k [] = All-nil (Holds k [])
all_hold k (x ∷ xs) =
    let none : k - k ≡ 0 = omega arith in
    All-cons (Holds k (x ∷ xs)) (k, x) (enumerate_from (k + 1) xs) (omega arith, ap (slice_get (x ∷ xs)) none)
    (All-weaker (Holds (k + 1) xs) (Holds k (x ∷ xs)) (further k x xs) (enumerate_from (k + 1) xs) (all_hold (k + 1) xs))

all_from : (k m : ℕ) (xs : List AccountRow) → All (λ (r : Row). k + m ≤ r.0) (drop m (enumerate_from k xs))
all_from k zero xs = All-weaker (Holds k xs) (λ (r : Row). k + zero ≤ r.0) (λ r h. omega (arith, h.0)) (enumerate_from k xs) (all_hold k xs)
all_from k (suc m) [] = All-nil (λ (r : Row). k + suc m ≤ r.0)
all_from k (suc m) (x ∷ xs) = All-weaker (λ (r : Row). k + 1 + m ≤ r.0) (λ (r : Row). k + suc m ≤ r.0)
    (λ r h. omega (arith, h)) (drop m (enumerate_from (k + 1) xs)) (all_from (k + 1) m xs)

-- what is shown is stored and was requested
pub are_stored : ShownRowsAreStored
are_stored q account =
    let first = first_number q.first account in
    let test : Row → Bool = λ r. meets q.filter r.1 in
    let rows = rows_from first account in
    let hold = All-drop (Holds 1 account) (first - 1) (numbered account) (all_hold 1 account) in
    let after = all_from 1 (first - 1) account in
    let kept = All-filter test (Holds 1 account) rows hold in
    let late = All-filter test (λ (r : Row). 1 + (first - 1) ≤ r.0) rows after in
    let meeting = filter_passes test rows in
    All-take (λ row. IsStored account row × IsAskedFor q account row) q.count (met q.filter rows)
    (λ k d lt. (kept k d lt, (omega (arith, late k d lt), meeting k d lt)))

-- and what is stored and was requested is shown
there_more : {X : Type 0} (y : X) (xs : List X) (x : X) → Contains xs x → Contains (y ∷ xs) x
there_more y xs x h = (suc h.0, omega (arith, h.1), h.2)

near_by : (k n : ℕ) → (k ≡ n) ⊎ (k < n) → (n ≡ k) ⊎ (k + 1 ≤ n)
near_by k n (inl is) = inl (sym is)
near_by k n (inr lt) = inr (omega (arith, lt))

near : (k n : ℕ) → k ≤ n → (n ≡ k) ⊎ (k + 1 ≤ n)
near k n le = near_by k n (eq-or-lt_of_le le)

here : (k : ℕ) (x : AccountRow) (xs : List AccountRow) (r : Row) → Holds k (x ∷ xs) r → r.0 ≡ k → (k, x) ≡ r
here k x xs r h is =
    let none : r.0 - k ≡ 0 = omega (arith, is) in
    let same : Some x ≡ Some r.1 = sym (ap (slice_get (x ∷ xs)) none) ∙ h.1 in
    search (rules, is, same)

either : (k : ℕ) (x : AccountRow) (xs : List AccountRow) (r : Row) → Holds k (x ∷ xs) r
    → (Holds (k + 1) xs r → Contains (enumerate_from (k + 1) xs) r) → (r.0 ≡ k) ⊎ (k + 1 ≤ r.0)
    → Contains (enumerate_from k (x ∷ xs)) r
either k x xs r h rest (inl is) = (0, omega arith, here k x xs r h is)
either k x xs r h rest (inr le) = there_more (k, x) (enumerate_from (k + 1) xs) r (rest (nearer k x xs r le h))

there : (k : ℕ) (xs : List AccountRow) (r : Row) → Holds k xs r → Contains (enumerate_from k xs) r
there k [] r h = absurd (cc)
there k (x ∷ xs) r h = either k x xs r h (there (k + 1) xs r) (near k r.0 h.0)

there_from : (k m : ℕ) (xs : List AccountRow) (r : Row) → Holds k xs r → k + m ≤ r.0 → Contains (drop m (enumerate_from k xs)) r
there_from k zero xs r h le = there k xs r h
there_from k (suc m) [] r h le = absurd (cc)
there_from k (suc m) (x ∷ xs) r h le = there_from (k + 1) m xs r (nearer k x xs r (omega (arith, le)) h) (omega (arith, le))

kept_here : {X : Type 0} (p : X → Bool) (y : X) (xs : List X) (x : X) → p x ≡ true
    → (Contains xs x → Contains (filter p xs) x) → (k : ℕ) → k < suc (length xs) → get_or (y ∷ xs) k x ≡ x
    → Contains (filter p (y ∷ xs)) x
kept_here p y xs x passes rest zero lt is = rw (ap p is ∙ passes) (0, omega arith, is)
kept_here {X} p y xs x passes rest (suc k) lt is =
    let among = rest (k, omega (arith, lt), is) in
    cond_both (p y) (y ∷ filter p xs) (filter p xs) (λ (l : List X). Contains l x)
    (λ _. there_more y (filter p xs) x among) (λ _. among)

kept_at : {X : Type 0} (p : X → Bool) (xs : List X) (x : X) → p x ≡ true → Contains xs x → Contains (filter p xs) x
kept_at p [] x passes h = absurd (omega (arith, h.1))
kept_at p (y ∷ xs) x passes h = kept_here p y xs x passes (kept_at p xs x passes) h.0 h.1 h.2

few_kept : {X : Type 0} (p : X → Bool) (xs : List X) → length (filter p xs) ≤ length xs
few_kept p [] = omega arith
few_kept {X} p (y ∷ xs) =
    let rest = few_kept p xs in
    cond_both (p y) (y ∷ filter p xs) (filter p xs) (λ (l : List X). length l ≤ suc (length xs)) (λ _. omega (arith, rest)) (λ _. omega (arith, rest))

pub are_shown : StoredRowsAreShown
are_shown q account row few stored asked =
    let first = first_number q.first account in
    let test : Row → Bool = λ r. meets q.filter r.1 in
    let rows = rows_from first account in
    let late : 1 + (first - 1) ≤ row.0 = omega (arith, asked.0, stored.0) in
    let among = kept_at test rows row asked.1 (there_from 1 (first - 1) account row stored late) in
    let short : length (met q.filter rows) ≤ q.count =
    omega (arith, few, few_kept test rows, length-drop (first - 1) (numbered account), length-enumerate_from 1 account) in
    subst (λ l. Contains l row) (sym (take_all q.count (met q.filter rows) short)) among

-- in order
abbrev Before : Row → Row → Type 0
Before one other = one.0 < other.0

module _ {X : Type 0} (R : X → X → Type 0) where
  pairs_after : (x : X) (xs : List X) → AllPairs R (x ∷ xs) → AllPairs R xs
  pairs_after x xs h i j d lt within = h (suc i) (suc j) d (omega (arith, lt)) (omega (arith, within))

  pairs_drop : (n : ℕ) (xs : List X) → AllPairs R xs → AllPairs R (drop n xs)
  pairs_drop zero xs h = h
  pairs_drop (suc n) [] h = λ i j d lt within. absurd (omega (arith, within))
  pairs_drop (suc n) (x ∷ xs) h = pairs_drop n xs (pairs_after x xs h)

  pairs_take : (n : ℕ) (xs : List X) → AllPairs R xs → AllPairs R (take n xs)
  pairs_take zero xs h = λ i j d lt within. absurd (omega (arith, within))
  pairs_take (suc n) [] h = λ i j d lt within. absurd (omega (arith, within))
  pairs_take (suc n) (x ∷ xs) h =
      let head : All (R x) xs = λ k d within. h zero (suc k) d (omega arith) (omega (arith, within)) in
      AllPairs-cons R x (take n xs) (All-take (R x) n xs head) (pairs_take n xs (pairs_after x xs h))

in_order : (k : ℕ) (xs : List AccountRow) → AllPairs Before (enumerate_from k xs)
in_order k [] = λ i j d lt within. absurd (omega (arith, within))
in_order k (x ∷ xs) = AllPairs-cons Before (k, x) (enumerate_from (k + 1) xs)
    (All-weaker (Holds (k + 1) xs) (Before (k, x)) (λ r h. omega (arith, h.0)) (enumerate_from (k + 1) xs) (all_hold (k + 1) xs))
    (in_order (k + 1) xs)

pub are_in_order : RowsAreShownInOrder
are_in_order q account =
    let first = first_number q.first account in
    pairs_take Before q.count (met q.filter (rows_from first account))
    (AllPairs-filter Before (λ (r : Row). meets q.filter r.1) (rows_from first account)
    (pairs_drop Before (first - 1) (numbered account) (in_order 1 account)))
