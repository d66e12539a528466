-- A text that is escaped, one character after another.
use Rattle.std.proofs.Common.{◌≡◌, ◌++◌, ℕ, List, [], encode_utf8, encode_utf8_all, length, IsUtf8}
use Rattle.std.proofs.StrCases.{chars_of_empty}
use Rattle.std.proofs.lemmas.Str.{chars_past_char, encodes-append}
use Rattle.opc_answers_sheet.specs.Escaped.{escaped, escaped_character}

pub escaped_empty : (text : List ℕ) → length text ≡ 0 → escaped text ≡ []
unfolding escaped
escaped_empty text none = rw (chars_of_empty text none)

pub escaped_step : (text rest : List ℕ) (c : ℕ) → IsUtf8 text → text ≡ encode_utf8 c ++ rest
    → escaped text ≡ encode_utf8_all (escaped_character c) ++ escaped rest
unfolding escaped
escaped_step text rest c utf8 parts = rw (chars_past_char text rest c utf8 parts, encodes-append)
