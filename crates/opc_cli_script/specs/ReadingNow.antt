-- Lines of an input, one at a time.
use Rattle.std.specs.Prelude.{◌≡◌, ◌<◌, ◌≤◌, ◌==◌, ◌⊎◌, ℕ, Bool, true, not, List, [], ◌∷◌, ◌++◌, Option, IsUtf8, length}
use Rattle.std.specs.Io.KnownBytes.{Consumes, IsAtEnd}
use Rattle.std.specs.List.{list_all}
use Rattle.std.specs.Str.Lines.{strip_carriage_return}
use Rattle.opc_cli_script.specs.Scripts.{script_limit}
use Rattle.opc_cli_script.specs.declared.reading_now.Typed.{Typed}
use Rattle.opc_cli_script.specs.declared.reading_now.Typed.TheVariants.{Line, NotUtf8, LongLine, End}

-- a text, or what is none
abbrev pub IsTextOf : List ℕ → Typed → Type 0
IsTextOf bytes (Line text) = IsUtf8 bytes × (text ≡ bytes)
IsTextOf bytes NotUtf8 = IsUtf8 bytes → ⊥
IsTextOf bytes LongLine = ⊥
IsTextOf bytes End = ⊥

-- The line is too long, or it is the text of some bytes.
abbrev pub IsLineOf : (all line : List ℕ) → Typed → Type 0
IsLineOf all line LongLine = script_limit < length all
IsLineOf all line typed = (length all ≤ script_limit) × IsTextOf line typed

-- A line feed follows these bytes, and a carriage return at their end belongs to it.
abbrev pub IsBeforeFeed : List ℕ → Typed → Type 0
IsBeforeFeed bytes typed = IsLineOf bytes (strip_carriage_return bytes) typed

-- The input ends after these bytes.
abbrev pub IsAtEndTyped : List ℕ → Typed → Type 0
IsAtEndTyped bytes End = bytes ≡ []
IsAtEndTyped bytes typed = (0 < length bytes) × IsLineOf bytes bytes typed

-- One byte more is kept, unless there are too many for a line.
abbrev pub IsKept : (old : List ℕ) → (byte : ℕ) → (new : List ℕ) → Type 0
IsKept old byte new =
    (length old ≤ script_limit → new ≡ old ++ byte ∷ []) × (script_limit < length old → new ≡ old)

-- no line feed among them
abbrev pub is_plain : List ℕ → Bool
is_plain bytes = list_all (λ c. not (c == 10)) bytes

-- What was read is the next line of what an input had left, with its line feed; or the last line, which has none; or
-- the input had ended.
pub record IsTyped (before after : Option (List ℕ)) (typed : Typed) : Type 0 where
  pub bytes : List ℕ
  pub plain : is_plain bytes ≡ true
  pub is : (Consumes before after (bytes ++ 10 ∷ []) × IsBeforeFeed bytes typed)
      ⊎ (Consumes before after bytes × IsAtEnd after × IsAtEndTyped bytes typed)
