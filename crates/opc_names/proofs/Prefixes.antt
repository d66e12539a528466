-- The order of bytes with zeros after them, by the numbers that their first bytes make.
use Rattle.std.proofs.Common.{
  ◌≡◌,
  ◌≢◌,
  ℕ,
  zero,
  ◌+◌,
  ◌*◌,
  ◌<◌,
  ◌≤◌,
  List,
  [],
  ◌∷◌,
  ◌++◌,
  suc,
  ◌-◌,
  length,
  take,
  drop,
  replicate,
  refl,
  sym,
  ◌∙◌,
  arith,
  length-append,
}
use Rattle.std.proofs.lemmas.List.{take-append-drop, length-take-le, length-replicate}
use Rattle.std.specs.List.{AllByRecursion}
use Rattle.std.specs.Cmp.{nat_cmp_is, ranks}
use Rattle.std.proofs.lemmas.Cmp.{ranked}
use Rattle.std.specs.Cmp.Lexicographic.{slice_cmp}
use Rattle.std.specs.Ordering.{nat_cmp, MatchOrdering, ordering_then}
use Rattle.std.specs.declared.cmp.Ordering.{Ordering}
use Rattle.std.specs.declared.cmp.Ordering.TheVariants.{Less, Equal, Greater}
use Rattle.opc_names.specs.Padded.{IsPadded, number_after, IsByte, length-padded}

rises : (a b : ℕ) (us vs : List ℕ) → length us ≡ length vs → AllByRecursion IsByte us → AllByRecursion IsByte vs → a < b → number_after a us < number_after b vs
rises a b [] [] e h k less = less
rises a b [] (v ∷ vs) e h k less = absurd (omega (arith, e))
rises a b (u ∷ us) [] e h k less = absurd (omega (arith, e))
rises a b (u ∷ us) (v ∷ vs) e h k less = rises (a * 256 + u) (b * 256 + v) us vs (omega (arith, e)) h.1 k.1 (omega (arith, less, h.0, k.0))

pub numbers_are_in_order : (a : ℕ) (us vs : List ℕ) → length us ≡ length vs → AllByRecursion IsByte us
    → AllByRecursion IsByte vs → nat_cmp (number_after a us) (number_after a vs) ≡ slice_cmp nat_cmp us vs
numbers_are_in_order a [] [] e h k = sym (nat_cmp_is a a Equal refl)
numbers_are_in_order a [] (v ∷ vs) e h k = absurd (omega (arith, e))
numbers_are_in_order a (u ∷ us) [] e h k = absurd (omega (arith, e))
numbers_are_in_order a (u ∷ us) (v ∷ vs) e h k = by (nat_cmp u v) refl (ranks u v) (numbers_are_in_order (a * 256 + v) us vs (omega (arith, e)) h.1 k.1)
  where
    by : (r : Ordering) → nat_cmp u v ≡ r → MatchOrdering r (u < v) (u ≡ v) (v < u)
        → nat_cmp (number_after (a * 256 + v) us) (number_after (a * 256 + v) vs) ≡ slice_cmp nat_cmp us vs
        → nat_cmp (number_after (a * 256 + u) us) (number_after (a * 256 + v) vs) ≡ ordering_then (nat_cmp u v) (slice_cmp nat_cmp us vs)
    by Less r less rest = rw r (sym (nat_cmp_is _ _ Less (rises (a * 256 + u) (a * 256 + v) us vs (omega (arith, e)) h.1 k.1 (omega (arith, less)))))
    by Equal r same rest = rw r (rw same rest)
    by Greater r more rest = rw r (sym (nat_cmp_is _ _ Greater (rises (a * 256 + v) (a * 256 + u) vs us (omega (arith, e)) k.1 h.1 (omega (arith, more)))))

abbrev order : List ℕ → List ℕ → Ordering
order = slice_cmp nat_cmp

-- equal members decide nothing, and others everything
carried : (r o p : Ordering) → (p ≢ Equal → o ≡ p) → ordering_then r p ≢ Equal → ordering_then r o ≡ ordering_then r p
carried Less o p rest h = refl
carried Equal o p rest h = rest h
carried Greater o p rest h = refl

-- what the first n decide, all decide
prefixes : (n : ℕ) (us vs : List ℕ) → length us ≡ length vs → order (take n us) (take n vs) ≢ Equal → order us vs ≡ order (take n us) (take n vs)
prefixes zero us vs e h = absurd (h refl)
prefixes (suc n) [] [] e h = absurd (h refl)
prefixes (suc n) [] (v ∷ vs) e h = absurd (omega (arith, e))
prefixes (suc n) (u ∷ us) [] e h = absurd (omega (arith, e))
prefixes (suc n) (u ∷ us) (v ∷ vs) e h = carried (nat_cmp u v) _ _ (prefixes n us vs (omega (arith, e))) h

zeros_are_equal : (k : ℕ) → order (replicate k 0) (replicate k 0) ≡ Equal
zeros_are_equal zero = refl
zeros_are_equal (suc k) = rw (sym (nat_cmp_is 0 0 Equal refl)) (zeros_are_equal k)

zeros_come_first : (k : ℕ) (ys : List ℕ) → length ys ≡ k → order (replicate k 0) ys ≢ Equal → order (replicate k 0) ys ≡ Less
zeros_come_first zero [] e h = absurd (h refl)
zeros_come_first zero (y ∷ ys) e h = absurd (omega (arith, e))
zeros_come_first (suc k) [] e h = absurd (omega (arith, e))
zeros_come_first (suc k) (y ∷ ys) e h = by (nat_cmp 0 y) (ranks 0 y) (zeros_come_first k ys (omega (arith, e))) h
  where
    by : (r : Ordering) → MatchOrdering r (0 < y) (0 ≡ y) (y < 0) → (order (replicate k 0) ys ≢ Equal → order (replicate k 0) ys ≡ Less)
        → ordering_then r (order (replicate k 0) ys) ≢ Equal → ordering_then r (order (replicate k 0) ys) ≡ Less
    by Less m rest n = refl
    by Equal m rest n = rest n
    by Greater m rest n = absurd (omega (arith, m))

zeros_come_last : (k : ℕ) (xs : List ℕ) → length xs ≡ k → order xs (replicate k 0) ≢ Equal → order xs (replicate k 0) ≡ Greater
zeros_come_last zero [] e h = absurd (h refl)
zeros_come_last zero (x ∷ xs) e h = absurd (omega (arith, e))
zeros_come_last (suc k) [] e h = absurd (omega (arith, e))
zeros_come_last (suc k) (x ∷ xs) e h = by (nat_cmp x 0) (ranks x 0) (zeros_come_last k xs (omega (arith, e))) h
  where
    by : (r : Ordering) → MatchOrdering r (x < 0) (x ≡ 0) (0 < x) → (order xs (replicate k 0) ≢ Equal → order xs (replicate k 0) ≡ Greater)
        → ordering_then r (order xs (replicate k 0)) ≢ Equal → ordering_then r (order xs (replicate k 0)) ≡ Greater
    by Less m rest n = absurd (omega (arith, m))
    by Equal m rest n = rest n
    by Greater m rest n = refl

-- zeros after two texts, up to one length, keep their order, if they leave one
texts : (xs ys : List ℕ) (k j : ℕ) → length xs + k ≡ length ys + j
    → order (xs ++ replicate k 0) (ys ++ replicate j 0) ≢ Equal
    → order xs ys ≡ order (xs ++ replicate k 0) (ys ++ replicate j 0)
texts [] [] k j e h = (let same : k ≡ j = omega (arith, e) in absurd (h (rw same (zeros_are_equal j))))
texts [] (y ∷ ys) k j e h =
    sym (zeros_come_first k (y ∷ ys ++ replicate j 0)
    (omega (arith, e, length-append ys (replicate j 0), length-replicate {A = ℕ} j 0)) h)
texts (x ∷ xs) [] k j e h =
    sym (zeros_come_last j (x ∷ xs ++ replicate k 0)
    (omega (arith, e, length-append xs (replicate k 0), length-replicate {A = ℕ} k 0)) h)
texts (x ∷ xs) (y ∷ ys) k j e h = carried (nat_cmp x y) _ _ (texts xs ys k j (omega (arith, e))) h

-- what bytes with zeros after them decide, the bytes alone decide
pub padded : (n a b : ℕ) (us vs : List ℕ) → IsPadded n a us → IsPadded n b vs → order us vs ≢ Equal → order (take a us) (take b vs) ≡ order us vs
padded n a b us vs h k m = texts (take a us) (take b vs) (n - a) (n - b) lengths (λ z. m (sym both ∙ z)) ∙ both
  where
    ours : take a us ++ replicate (n - a) 0 ≡ us
    ours = rw (sym h.zeros) (take-append-drop a us)

    theirs : take b vs ++ replicate (n - b) 0 ≡ vs
    theirs = rw (sym k.zeros) (take-append-drop b vs)

    both : order (take a us ++ replicate (n - a) 0) (take b vs ++ replicate (n - b) 0) ≡ order us vs
    both = (λ i. order (ours i) (theirs i))

    lengths : length (take a us) + (n - a) ≡ length (take b vs) + (n - b)
    lengths = omega (arith, length-padded n a us h, length-padded n b vs k, h.fits, k.fits)

same_number : (x y : ℕ) → nat_cmp x y ≡ Equal → x ≡ y
same_number x y e = ranked x y Equal (sym e)

-- what begins alike is decided after it
passed : (r o p q : Ordering) → (p ≡ Equal → o ≡ q) → ordering_then r p ≡ Equal → ordering_then r o ≡ q
passed Less o p q rest h = cc
passed Equal o p q rest h = rest h
passed Greater o p q rest h = cc

after : (n : ℕ) (us vs : List ℕ) → length us ≡ length vs → order (take n us) (take n vs) ≡ Equal → order us vs ≡ order (drop n us) (drop n vs)
after zero us vs e h = refl
after (suc n) [] [] e h = refl
after (suc n) [] (v ∷ vs) e h = absurd (omega (arith, e))
after (suc n) (u ∷ us) [] e h = absurd (omega (arith, e))
after (suc n) (u ∷ us) (v ∷ vs) e h = passed (nat_cmp u v) _ _ _ (after n us vs (omega (arith, e))) h

-- two lists of at least eight bytes, and the numbers that their first eight make
pub record ArePrefixes (x y : ℕ) (us vs : List ℕ) : Type 0 where
  pub lengths : length us ≡ length vs
  pub long : 8 ≤ length us
  pub ours : AllByRecursion IsByte (take 8 us)
  pub theirs : AllByRecursion IsByte (take 8 vs)
  pub x_is : x ≡ number_after 0 (take 8 us)
  pub y_is : y ≡ number_after 0 (take 8 vs)

numbers_report : (x y : ℕ) (us vs : List ℕ) → ArePrefixes x y us vs → nat_cmp x y ≡ order (take 8 us) (take 8 vs)
numbers_report x y us vs h = rw (h.x_is, h.y_is)
    (numbers_are_in_order 0 (take 8 us) (take 8 vs)
    (omega (arith, length-take-le 8 us h.long, length-take-le 8 vs (omega (arith, h.long, h.lengths)))) h.ours h.theirs)

-- if these differ, they decide the order
pub prefixes_decide : (x y : ℕ) (us vs : List ℕ) → ArePrefixes x y us vs → x ≢ y → (nat_cmp x y ≡ order us vs) × (nat_cmp x y ≢ Equal)
prefixes_decide x y us vs h differ =
    let reported = numbers_report x y us vs h in
    let unequal : order (take 8 us) (take 8 vs) ≢ Equal = (λ z. differ (same_number x y (reported ∙ z))) in
    (reported ∙ sym (prefixes 8 us vs h.lengths unequal), λ z. differ (same_number x y z))

-- and otherwise it is that of the rest
pub prefixes_pass : (x y : ℕ) (us vs : List ℕ) → ArePrefixes x y us vs → x ≡ y → order us vs ≡ order (drop 8 us) (drop 8 vs)
prefixes_pass x y us vs h same = after 8 us vs h.lengths (sym (numbers_report x y us vs h) ∙ sym (nat_cmp_is x y Equal same))
