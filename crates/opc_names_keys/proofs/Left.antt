-- The keys that a text differs from if it differs from one of them.
use Rattle.std.proofs.Common.{
  ◌≡◌,
  ℕ,
  ◌<◌,
  ◌≤◌,
  ◌+◌,
  ◌-◌,
  Bool,
  true,
  false,
  ◌&&◌,
  ◌||◌,
  nat_lt,
  List,
  [],
  ◌∷◌,
  ◌++◌,
  take,
  drop,
  get_or,
  length,
  length-drop,
  refl,
  sym,
  arith,
  ◌⊎◌,
  inl,
  inr,
  ⊎_elim,
  suc,
}
use Rattle.std.specs.Cmp.{nat_cmp_is, ranks}
use Rattle.std.specs.Cmp.Lexicographic.{slice_cmp}
use Rattle.std.specs.Ordering.{nat_cmp, is_lt, MatchOrdering, ordering_then}
use Rattle.std.specs.declared.cmp.Ordering.{Ordering}
use Rattle.std.specs.declared.cmp.Ordering.TheVariants.{Less, Equal, Greater}
use Rattle.std.proofs.lemmas.Bool.{false≢true}
use Rattle.std.proofs.lemmas.List.{take_all}
use Rattle.std.proofs.lemmas.Bool.Decides.{nat_tests}
use Rattle.opc_names_keys.specs.Follows.{FollowsNone, byte_past, follows, stands_for}

abbrev order : List ℕ → List ℕ → Ordering
order = slice_cmp nat_cmp

-- by the first bytes of two keys

not_below : (x b : ℕ) (q k : List ℕ) → is_lt (order (x ∷ q) (b ∷ k)) ≡ false → (b < x) ⊎ ((x ≡ b) × (is_lt (order q k) ≡ false))
not_below x b q k = go (nat_cmp x b) (ranks x b)
  where
    go : (r : Ordering) → MatchOrdering r (x < b) (x ≡ b) (b < x) → is_lt (ordering_then r (order q k)) ≡ false
        → (b < x) ⊎ ((x ≡ b) × (is_lt (order q k) ≡ false))
    go Less m h = absurd (false≢true (sym h))
    go Equal m h = inr (m, h)
    go Greater m h = inl m

below : (x n : ℕ) (q u : List ℕ) → is_lt (order (x ∷ q) (n ∷ u)) ≡ true → (x < n) ⊎ ((x ≡ n) × (is_lt (order q u) ≡ true))
below x n q u = go (nat_cmp x n) (ranks x n)
  where
    go : (r : Ordering) → MatchOrdering r (x < n) (x ≡ n) (n < x) → is_lt (ordering_then r (order q u)) ≡ true
        → (x < n) ⊎ ((x ≡ n) × (is_lt (order q u) ≡ true))
    go Less m h = inl m
    go Equal m h = inr (m, h)
    go Greater m h = absurd (false≢true h)

none_below_nothing : (q : List ℕ) → is_lt (order q []) ≡ true → ⊥
none_below_nothing [] h = false≢true h
none_below_nothing (x ∷ q) h = false≢true h

-- no byte up to the one past stands for the character or is open
no_byte : (b c x : ℕ) (more : Bool) → nat_lt 128 b ≡ false → stands_for b c ≡ false → b ≤ x → x < byte_past b c
    → (nat_lt 128 x || (stands_for x c && more)) ≡ false
no_byte b c x more small other low high = grind (arith, nat_tests)

-- a name that differs from a key at its first byte
pub left_here : (b c : ℕ) (key text : List ℕ) → nat_lt 128 b ≡ false → stands_for b c ≡ false
    → FollowsNone (c ∷ text) (b ∷ key) (byte_past b c ∷ [])
left_here b c key text small other [] low high = absurd (false≢true (sym low))
left_here b c key text small other (x ∷ q) low high =
    no_byte b c x (follows q text) small other
    (⊎_elim (λ l. omega (arith, l)) (λ l. let e = l.0 in omega (arith, e)) (not_below x b q key low))
    (⊎_elim (λ l. l) (λ l. absurd (none_below_nothing q l.1)) (below x (byte_past b c) q [] high))

-- a name that differs from a key further on
pub left_later : (b c : ℕ) (key upto text : List ℕ) → nat_lt 128 b ≡ false → FollowsNone text key upto
    → FollowsNone (c ∷ text) (b ∷ key) (b ∷ upto)
left_later b c key upto text small more [] low high = absurd (false≢true (sym low))
left_later b c key upto text small more (x ∷ q) low high =
    ⊎_elim (λ l. absurd (⊎_elim (λ m. omega (arith, l, m)) (λ m. let e = m.0 in omega (arith, l, e)) rest)) (λ l.
    ⊎_elim (λ m. absurd (let e = l.0 in omega (arith, e, m))) (λ m. same l.0 (more q l.1 m.1)) rest)
    (not_below x b q key low)
  where
    rest : (x < b) ⊎ ((x ≡ b) × (is_lt (order q upto) ≡ true))
    rest = below x b q upto high

    same : x ≡ b → follows q text ≡ false → (nat_lt 128 x || (stands_for x c && follows q text)) ≡ false
    same e f = rw (e, small, f) (none (stands_for b c))
      where
        none : (t : Bool) → (t && false) ≡ false
        none true = refl
        none false = refl

-- a byte past one is above it
byte_above : (b c : ℕ) → nat_lt 128 b ≡ false → b < byte_past b c
byte_above b c small = grind (arith, nat_tests)

-- a key with a higher byte in one place is later
further_here : (b n : ℕ) (key : List ℕ) → b < n → is_lt (order (b ∷ key) (n ∷ [])) ≡ true
further_here b n key less = go (nat_cmp b n) (ranks b n)
  where
    go : (r : Ordering) → MatchOrdering r (b < n) (b ≡ n) (n < b) → is_lt (ordering_then r (order key [])) ≡ true
    go Less m = refl
    go Equal m = absurd (omega (arith, less, m))
    go Greater m = absurd (omega (arith, less, m))

further_later : (b : ℕ) (key upto : List ℕ) → is_lt (order key upto) ≡ true → is_lt (order (b ∷ key) (b ∷ upto)) ≡ true
further_later b key upto h = let same : nat_cmp b b ≡ Equal = sym (nat_cmp_is b b Equal refl) in rw same h

-- ---- the same of lists that are taken apart

abbrev first : List ℕ → ℕ
first xs = get_or xs 0 0

-- what follows the first of a list
pub after_first : (xs : List ℕ) → take (length xs - 1) (drop 1 xs) ≡ drop 1 xs
after_first xs = take_all (length xs - 1) (drop 1 xs) (rw (length-drop 1 xs) (omega arith))

not_open : (b : ℕ) → b ≤ 128 → nat_lt 128 b ≡ false
not_open b h = grind (arith, nat_tests)

module _ (key text : List ℕ) (some : 1 ≤ length key) (more : 1 ≤ length text) (within : first key ≤ 128) where
  -- at the first character
  pub left_at_first : stands_for (first key) (first text) ≡ false → FollowsNone text key (byte_past (first key) (first text) ∷ [])
  left_at_first other = go key text some more (not_open (first key) within) other
    where
      go : (key text : List ℕ) → 1 ≤ length key → 1 ≤ length text → nat_lt 128 (first key) ≡ false
          → stands_for (first key) (first text) ≡ false → FollowsNone text key (byte_past (first key) (first text) ∷ [])
      go [] text some more small other = absurd (omega (arith, some))
      go (b ∷ key) [] some more small other = absurd (omega (arith, more))
      go (b ∷ key) (c ∷ text) some more small other = left_here b c key text small other

  pub itself_at_first : stands_for (first key) (first text) ≡ false → follows key text ≡ false
  itself_at_first other = go key text some more (not_open (first key) within) other
    where
      go : (key text : List ℕ) → 1 ≤ length key → 1 ≤ length text → nat_lt 128 (first key) ≡ false
          → stands_for (first key) (first text) ≡ false → follows key text ≡ false
      go [] text some more small other = absurd (omega (arith, some))
      go (b ∷ key) [] some more small other = absurd (omega (arith, more))
      go (b ∷ key) (c ∷ text) some more small other = rw (small, other) refl

  -- further on
  pub left_further : (at next : ℕ) → FollowsNone (drop 1 text) (drop 1 key) (take at (drop 1 key) ++ next ∷ [])
      → FollowsNone text key (take (at + 1) key ++ next ∷ [])
  left_further at next later = go key text some more (not_open (first key) within) later
    where
      go : (key text : List ℕ) → 1 ≤ length key → 1 ≤ length text → nat_lt 128 (first key) ≡ false
          → FollowsNone (drop 1 text) (drop 1 key) (take at (drop 1 key) ++ next ∷ [])
          → FollowsNone text key (take (at + 1) key ++ next ∷ [])
      go [] text some more small later = absurd (omega (arith, some))
      go (b ∷ key) [] some more small later = absurd (omega (arith, more))
      go (b ∷ key) (c ∷ text) some more small later =
          let one : at + 1 ≡ suc at = omega arith in
          rw one (left_later b c key (take at key ++ next ∷ []) text small later)

  pub itself_further : follows (drop 1 key) (drop 1 text) ≡ false → follows key text ≡ false
  itself_further itself = go key text some more (not_open (first key) within) itself
    where
      none : (t : Bool) → (t && false) ≡ false
      none true = refl
      none false = refl

      go : (key text : List ℕ) → 1 ≤ length key → 1 ≤ length text → nat_lt 128 (first key) ≡ false
          → follows (drop 1 key) (drop 1 text) ≡ false → follows key text ≡ false
      go [] text some more small itself = absurd (omega (arith, some))
      go (b ∷ key) [] some more small itself = absurd (omega (arith, more))
      go (b ∷ key) (c ∷ text) some more small itself = rw (small, itself) (none (stands_for b c))

  -- the byte past is above the first of the key
  pub further_at_first : is_lt (order key (byte_past (first key) (first text) ∷ [])) ≡ true
  further_at_first = go key some (not_open (first key) within)
    where
      go : (key : List ℕ) → 1 ≤ length key → nat_lt 128 (first key) ≡ false → is_lt (order key (byte_past (first key) (first text) ∷ [])) ≡ true
      go [] some small = absurd (omega (arith, some))
      go (b ∷ key) some small = further_here b (byte_past b (first text)) key (byte_above b (first text) small)

  pub further_further : (at next : ℕ) → is_lt (order (drop 1 key) (take at (drop 1 key) ++ next ∷ [])) ≡ true
      → is_lt (order key (take (at + 1) key ++ next ∷ [])) ≡ true
  further_further at next h = go key some h
    where
      go : (key : List ℕ) → 1 ≤ length key → is_lt (order (drop 1 key) (take at (drop 1 key) ++ next ∷ [])) ≡ true
          → is_lt (order key (take (at + 1) key ++ next ∷ [])) ≡ true
      go [] some h = absurd (omega (arith, some))
      go (b ∷ key) some h =
          let one : at + 1 ≡ suc at = omega arith in
          rw one (further_later b key (take at key ++ next ∷ []) h)
