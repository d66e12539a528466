-- A timestamp as a time, as RFC 3339 writes it.
use Rattle.std.specs.Prelude.{◌≡◌, ◌≤◌, ◌⊎◌, ℕ, ◌*◌, List, ◌++◌, codes, decimal, pos}
use Rattle.jiff.specs.Types.{DateTime}
use Rattle.jiff.specs.Words.{civil_nanos, iso_datetime_text}

-- the date and the time of day that many seconds after 1970 began, in UTC: `1994-11-06T08:49:37Z`
pub record IsDated (moment : ℕ) (text : List ℕ) : Type 0 where
  pub at : DateTime
  pub since : civil_nanos at ≡ pos (moment * 1_000_000_000)
  pub is : text ≡ iso_datetime_text at ++ codes "Z"

-- the timestamp as a number, after the year 9999
pub record IsPastDates (moment : ℕ) (text : List ℕ) : Type 0 where
  pub past : 253_402_300_800 ≤ moment
  pub is : text ≡ decimal moment

abbrev pub IsTime : ℕ → List ℕ → Type 0
IsTime moment text = IsDated moment text ⊎ IsPastDates moment text
