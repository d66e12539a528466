-- How much is drained, and by which reads.
use Rattle.std.proofs.Common.{
  ◌≡◌,
  ◌⊎◌,
  inl,
  inr,
  ◌≤◌,
  ◌<◌,
  ◌+◌,
  ℕ,
  zero,
  suc,
  Bool,
  true,
  List,
  [],
  ◌∷◌,
  Option,
  Result,
  Ok,
  Err,
  refl,
  sym,
  subst,
  arith,
  length,
}
use Rattle.std.specs.Prelude.{OnOk, is_ok}
use Rattle.std.specs.Duration.{as_nanos}
use Rattle.std.specs.declared.io.Error.{Error}
use Rattle.std.specs.declared.time.Duration.{Duration}
use Rattle.opc_io.specs.Reads.{TakesAtMost}
use Rattle.opc_http_connections.specs.Draining.{AreFruitful, IsReadOut, IsReadShortly}
use Rattle.opc_http_connections.specs.Timed.{IsHurried, IsReadInTime}
use Rattle.opc_http_connections.specs.declared.timed.Timed.{Timed}

-- a limit that is raised is kept
pub raised : (few most : ℕ) (before after : Option (List ℕ)) → few ≤ most → TakesAtMost few before after → TakesAtMost most before after
raised few most before after low h = record { taken = h.taken; consumes = h.consumes; few = let short = h.few in omega (arith, low, short) }

module _ {S : Type 0} (gives : S → List ℕ → S → Type 0) where
  -- one more read gave something
  pub one_more : (n : ℕ) (first mid last : S) (given : List ℕ) → AreFruitful gives n first mid → gives mid given last → 0 < length given
      → AreFruitful gives (n + 1) first last
  one_more n first mid last given are read some =
      let e : suc n ≡ n + 1 = omega arith in
      subst (λ m. AreFruitful gives m first last) e (mid, given, are, read, some)

  -- one before them did
  one_before : (n : ℕ) (first mid last : S) (given : List ℕ) → gives first given mid → 0 < length given → AreFruitful gives n mid last
      → AreFruitful gives (suc n) first last
  one_before zero first mid last given read some same = (first, given, refl, subst (λ s. gives first given s) (sym same) read, some)
  one_before (suc n) first mid last given read some (s, more, are, next, fruit) =
      (s, more, one_before n first mid s given read some are, next, fruit)

  -- the next read gave nothing
  pub read_out : (n most : ℕ) (first mid last : S) (given : List ℕ) → n < most → AreFruitful gives n first mid → gives mid given last
      → (0 < length given → ⊥) → IsReadOut gives most first last
  read_out n most first mid last [] low are read none =
      record { count = n; mid = mid; fruitful = are; ended = inr (low, read) }
  read_out n most first mid last (x ∷ given) low are read none = absurd (none (omega arith))

  -- a first read gave something, and then the source was read out
  ended_after : (few most n : ℕ) (mid last : S) → most ≡ few + 1 → ((n ≡ few) × (last ≡ mid)) ⊎ ((n < few) × gives mid [] last)
      → ((suc n ≡ most) × (last ≡ mid)) ⊎ ((suc n < most) × gives mid [] last)
  ended_after few most n mid last more (inl all) = let e = all.0 in inl (omega (arith, e, more), all.1)
  ended_after few most n mid last more (inr part) = let low = part.0 in inr (omega (arith, low, more), part.1)

  pub read_out_after : (few most : ℕ) (first mid last : S) (given : List ℕ) → most ≡ few + 1 → gives first given mid → 0 < length given
      → IsReadOut gives few mid last → IsReadOut gives most first last
  read_out_after few most first mid last given more read some out = record {
    count = suc out.count;
    mid = out.mid;
    fruitful = one_before out.count first mid out.mid given read some out.fruitful;
    ended = ended_after few most out.count out.mid last more out.ended;
  }

module _ {C K : Type 0} (limits : C → Duration → Bool → Type 0) (shows : K → Result Duration Error → Type 0)
    (reads : C → Result ℕ Error → C → Type 0) (remaining : C → Option (List ℕ)) where
  -- with the deadline that was brought forward
  pub shortly : {A : Type 0} (longest : Duration) (old soon new : Timed C K) (hurried : Result A Error) → as_nanos longest ≡ 1_000_000_000
      → is_ok hurried ≡ true → OnOk hurried (IsHurried shows longest old.timer.now old.deadline soon.deadline)
      → soon ≡ record old { deadline = soon.deadline }
      → IsReadOut (λ t given after. IsReadInTime limits shows reads remaining t given after) 32 soon new
      → IsReadShortly limits shows reads remaining old new
  shortly longest old soon new (Ok a) second ok hurried same out = record {
    longest = longest;
    second = second;
    deadline = soon.deadline;
    hurried = hurried;
    out = subst (λ t. IsReadOut (λ t given after. IsReadInTime limits shows reads remaining t given after) 32 t new) same out;
  }
  shortly longest old soon new (Err error) second ok hurried same out = absurd (cc)
