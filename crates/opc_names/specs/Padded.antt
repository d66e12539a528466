-- Bytes in an array, with zeros after them. The model of `Bytes` cites this page, and so do inner contracts.
use Rattle.std.specs.Prelude.{◌≡◌, ℕ, ◌+◌, ◌*◌, ◌-◌, ◌≤◌, ◌<◌, List, [], ◌∷◌, ◌++◌, length, take, drop, replicate}
use Rattle.std.proofs.Common.{arith}
use Rattle.std.proofs.lemmas.List.{take-append-drop, length-take-le}

-- of an array of n bytes, those from len on are zeros
pub record IsPadded (n len : ℕ) (bytes : List ℕ) : Type 0 where
  pub fits : len ≤ n
  pub full : length bytes ≡ n
  pub zeros : drop len bytes ≡ replicate (n - len) 0

-- bytes with zeros after them
abbrev pub padded_to : ℕ → List ℕ → List ℕ
padded_to n bytes = bytes ++ replicate (n - length bytes) 0

pub length-padded : (n len : ℕ) (bytes : List ℕ) → IsPadded n len bytes → length (take len bytes) ≡ len
length-padded n len bytes h = length-take-le len bytes (omega (arith, h.fits, h.full))

pub padded-take : (n len : ℕ) (bytes : List ℕ) → IsPadded n len bytes → padded_to n (take len bytes) ≡ bytes
padded-take n len bytes h = rw (length-padded n len bytes h, ← h.zeros) (take-append-drop len bytes)

-- bytes as the digits of a number, after those of n
abbrev pub number_after : ℕ → List ℕ → ℕ
number_after n [] = n
number_after n (b ∷ bytes) = number_after (n * 256 + b) bytes

abbrev pub IsByte : ℕ → Type 0
IsByte b = b < 256
