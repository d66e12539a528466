-- The name of a state of a policy.
use Rattle.std.specs.Prelude.{◌≡◌, ◌==◌, ◌++◌, ℕ, List, [], codes, encode_utf8, flat_map, if◌then◌else◌, take}
use Rattle.hex.specs.Hex.{encode_lower}
use Rattle.sha2.specs.Sha256.{sha256}
use Rattle.opc_times.specs.Times.{IsTime}

-- the characters of a time, which are ASCII, but its colons (58)
abbrev pub stamped : ℕ → List ℕ
stamped character = if character == 58 then [] else encode_utf8 character

-- how the SHA-256 of a text begins: its first sixteen digits
abbrev pub digits_of : (text : List ℕ) → List ℕ
digits_of text = encode_lower (take 8 (sha256 text))

-- The time without its colons, and the first sixteen digits of the SHA-256 of the text:
-- `2026-11-28T080415Z-3f9a1c2b0d4e5f60`.
pub record IsStateName (moment : ℕ) (text name : List ℕ) : Type 0 where
  pub time : List ℕ
  pub at : IsTime moment time
  pub is : name ≡ flat_map stamped time ++ codes "-" ++ digits_of text
