-- Calls of a connection's handle that end by a deadline.
use Rattle.std.specs.Prelude.{
  ◌≡◌,
  ◌⊎◌,
  ◌≤◌,
  ◌<◌,
  ◌+◌,
  ℕ,
  zero,
  suc,
  Bool,
  true,
  false,
  List,
  Option,
  Some,
  None,
  Result,
  Ok,
  Err,
  IsErrAnd,
  IsSomeAnd,
  MatchResult,
  min,
  ⊤,
}
use Rattle.std.specs.Duration.{as_nanos, max_nanos}
use Rattle.std.specs.Io.KnownBytes.{Consumes}
use Rattle.std.specs.IoError.{error_kind}
use Rattle.std.specs.declared.io.Error.{Error}
use Rattle.std.specs.declared.io.ErrorKind.{ErrorKind}
use Rattle.std.specs.declared.io.ErrorKind.TheVariants.{Interrupted, TimedOut}
use Rattle.std.specs.declared.time.Duration.{Duration}
use Rattle.opc_http_connections.specs.declared.timed.Timed.{Timed}

-- the kind of an error that a signal causes
abbrev pub is_interrupt : ErrorKind → Bool
is_interrupt Interrupted = true
is_interrupt kind = false

-- a signal interrupted the call
abbrev pub is_interrupted : Result ℕ Error → Bool
is_interrupted (Ok n) = false
is_interrupted (Err error) = is_interrupt (error_kind error)

module _ {K : Type 0} (shows : K → Result Duration Error → Type 0) where
  -- The deadline is this long after what the clock showed, if that time can be represented. If there is no limit, there
  -- is none.
  abbrev pub IsDue : K → (limit : Option Duration) → (deadline : Option Duration) → Type 0
  IsDue timer None deadline = deadline ≡ None
  IsDue timer (Some limit) deadline = (time : Duration) × shows timer (Ok time)
      × IsSomeAnd deadline (λ end. as_nanos end ≡ min (as_nanos time + as_nanos limit) max_nanos)

  -- the earlier of the deadline, if there is one, and the end of this duration
  abbrev pub earlier : Option Duration → ℕ → ℕ
  earlier None soon = soon
  earlier (Some deadline) soon = min (as_nanos deadline) soon

  -- The deadline was brought forward, so that it is at most this long after what the clock showed.
  abbrev pub IsHurried : (longest : Duration) → K → (old new : Option Duration) → Type 0
  IsHurried longest timer old new = (time : Duration) × shows timer (Ok time)
      × IsSomeAnd new (λ end. as_nanos end ≡ earlier old (min (as_nanos time + as_nanos longest) max_nanos))

  module _ {C : Type 0} (limits : C → Duration → Bool → Type 0) (timer : K) (handle : C) where
    -- The clock showed a time before the deadline, and a call limited the waits of the handle to what was left then, or
    -- failed.
    pub record IsTimely (deadline : Duration) (able : Bool) : Type 0 where
      pub time : Duration
      pub shown : shows timer (Ok time)
      pub left : Duration
      pub until : as_nanos time + as_nanos left ≡ as_nanos deadline
      pub some : 0 < as_nanos left
      pub limited : limits handle left able

    -- The clock showed the deadline or a later time.
    pub record IsLate (deadline : Duration) (error : Error) : Type 0 where
      pub time : Duration
      pub shown : shows timer (Ok time)
      pub over : as_nanos deadline ≤ as_nanos time
      pub kind : error_kind error ≡ TimedOut

    -- Waits are limited to what is left until the deadline, if there is one.
    abbrev pub IsReady : Option Duration → Type 0
    IsReady None = ⊤
    IsReady (Some deadline) = IsTimely deadline true

    -- The clock fails, or the deadline is over, or waits cannot be limited. So there is a deadline.
    abbrev pub IsUnready : Option Duration → Error → Type 0
    IsUnready None error = ⊥
    IsUnready (Some deadline) error = shows timer (Err error) ⊎ IsLate deadline error ⊎ IsTimely deadline false

    abbrev pub IsLimited : {A : Type 0} → Option Duration → Result A Error → Type 0
    IsLimited deadline limited = MatchResult limited (λ _. IsReady deadline) (λ error. IsUnready deadline error)

  module _ {C : Type 0} (limits : C → Duration → Bool → Type 0) (calls : C → Result ℕ Error → C → Type 0) (timer : K)
      (deadline : Option Duration) where
    -- One call was made, within what was left; or that was impossible, and no call was made.
    abbrev pub IsTry : (before : C) → Result ℕ Error → (after : C) → Type 0
    IsTry before answer after =
        (IsReady limits timer before deadline × calls before answer after)
        ⊎ (IsErrAnd answer (λ error. IsUnready limits timer before deadline error) × (after ≡ before))

    -- The last of one or more tries returned this, and a signal interrupted each of this many before it.
    abbrev pub AreTries : (interrupted : ℕ) → (before : C) → Result ℕ Error → (after : C) → Type 0
    AreTries zero before answer after = IsTry before answer after
    AreTries (suc n) before answer after =
        (mid : C) × (first : Result ℕ Error)
        × AreTries n before first mid × (is_interrupted first ≡ true) × IsTry mid answer after

    -- The call was tried again until no signal interrupted it, unless signals interrupted it too often.
    pub record IsTried (before : C) (answer : Result ℕ Error) (after : C) : Type 0 where
      pub interrupted : ℕ
      pub tries : AreTries interrupted before answer after
      pub ended : is_interrupted answer ≡ true → interrupted ≡ 1_000_000_000

-- One read of the handle, within the deadline, gave these bytes. The deadline stayed.
pub record IsReadInTime {C K : Type 0} (limits : C → Duration → Bool → Type 0)
    (shows : K → Result Duration Error → Type 0) (reads : C → Result ℕ Error → C → Type 0)
    (remaining : C → Option (List ℕ)) (before : Timed C K) (given : List ℕ) (after : Timed C K) : Type 0 where
  pub answer : Result ℕ Error
  pub tried : IsTried shows limits reads before.timer.now before.deadline before.handle answer after.handle
  pub gave : Consumes (remaining before.handle) (remaining after.handle) given
  pub deadline : after.deadline ≡ before.deadline
