-- Stretches of a line.
use Rattle.std.specs.Prelude.{ℕ, ◌+◌, List, take, drop, map, Option, Some, None, if◌then◌else◌, length}
use Rattle.std.specs.Char.{to_ascii_uppercase}
use Rattle.std.specs.Str.{bytes_eq}

-- some text of a line, and the byte place where it begins
pub record Stretch : Type 0 where
  pub text : List ℕ
  pub from : ℕ

-- a text in upper case: `a` to `z` alone are folded
abbrev pub folded : List ℕ → List ℕ
folded text = map to_ascii_uppercase text

-- the first n characters, and those after them
abbrev pub prefix : ℕ → Stretch → Stretch
prefix n s = record { text = take n s.text; from = s.from }

abbrev pub after : ℕ → Stretch → Stretch
after n s = record { text = drop n s.text; from = s.from + n }

-- what follows a word, if the stretch begins with it in any case
unfoldable pub word : List ℕ → Stretch → Option Stretch
word w s = if bytes_eq (folded (take (length w) s.text)) w then Some (after (length w) s) else None
