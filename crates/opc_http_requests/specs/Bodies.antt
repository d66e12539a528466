-- How the body of a request is read.
use Rattle.std.specs.Prelude.{◌≡◌, ◌≤◌, ◌<◌, ◌+◌, ◌++◌, ℕ, Bool, true, false, List, length, Option}
use Rattle.std.specs.Io.KnownBytes.{Consumes, IsAtEnd}

-- the buffer has this many bytes, or the source is at its end before
abbrev pub IsWhole : ℕ → Bool → Option (List ℕ) → List ℕ → Type 0
IsWhole most true after buf = most ≤ length buf
IsWhole most false after buf = (length buf < most) × IsAtEnd after

-- bytes moved from the source to the buffer, up to that length
pub record ReadsTo (most : ℕ) (whole : Bool) (before after : Option (List ℕ)) (old new : List ℕ) : Type 0 where
  pub moved : List ℕ
  pub consumes : Consumes before after moved
  pub buffer : new ≡ old ++ moved
  pub is : IsWhole most whole after new

-- A read of what ends at that length may be made before it is there, and ends with it. It gives at most 1,024 bytes.
pub record MayFill (most : ℕ) (before : List ℕ) (count : ℕ) : Type 0 where
  pub short : length before < most
  pub within : length before + count ≤ most
  pub block : count ≤ 1024
