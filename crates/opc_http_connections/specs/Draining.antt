-- How what a peer sends after the response is drained.
use Rattle.std.specs.Prelude.{◌≡◌, ◌⊎◌, ◌<◌, ℕ, zero, suc, Bool, true, false, List, [], Option, Result, Err, length}
use Rattle.std.specs.Duration.{as_nanos}
use Rattle.std.specs.declared.io.Error.{Error}
use Rattle.std.specs.declared.time.Duration.{Duration}
use Rattle.opc_http_connections.specs.Timed.{IsHurried, IsReadInTime}
use Rattle.opc_http_connections.specs.declared.timed.Timed.{Timed}

module _ {S : Type 0} (gives : S → List ℕ → S → Type 0) where
  -- this many reads, one after another, each of which gave a byte or more
  abbrev pub AreFruitful : ℕ → (first last : S) → Type 0
  AreFruitful zero first last = last ≡ first
  AreFruitful (suc n) first last =
      (mid : S) × (given : List ℕ) × AreFruitful n first mid × gives mid given last × (0 < length given)

  -- The source was read until a read gave nothing or failed, or this many times.
  pub record IsReadOut (most : ℕ) (first last : S) : Type 0 where
    pub count : ℕ
    pub mid : S
    pub fruitful : AreFruitful count first mid
    pub ended : ((count ≡ most) × (last ≡ mid)) ⊎ ((count < most) × gives mid [] last)

module _ {C K : Type 0} (limits : C → Duration → Bool → Type 0) (shows : K → Result Duration Error → Type 0)
    (reads : C → Result ℕ Error → C → Type 0) (remaining : C → Option (List ℕ)) where
  -- The deadline was brought forward to a second from then, and the peer was read by it, at most 32 times.
  pub record IsReadShortly (old new : Timed C K) : Type 0 where
    pub longest : Duration
    pub second : as_nanos longest ≡ 1_000_000_000
    pub deadline : Option Duration
    pub hurried : IsHurried shows longest old.timer.now old.deadline deadline
    pub out : IsReadOut (λ t given after. IsReadInTime limits shows reads remaining t given after) 32
        (record old { deadline = deadline }) new

  -- First our half was shut down. If that succeeded and the clock could be read, the peer was then read for a short
  -- time. Otherwise nothing was read.
  abbrev pub IsDrained : (shuts : C → Bool → Type 0) → (old new : Timed C K) → Type 0
  IsDrained shuts old new =
      (shuts old.handle false × (new.handle ≡ old.handle))
      ⊎ (shuts old.handle true
      × (((error : Error) × shows old.timer.now (Err error) × (new.handle ≡ old.handle)) ⊎ IsReadShortly old new))
