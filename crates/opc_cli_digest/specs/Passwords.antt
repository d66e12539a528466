-- The password on the input, and its digest.
use Rattle.std.specs.Prelude.{
  ◌≡◌,
  ◌-◌,
  ◌==◌,
  ℕ,
  List,
  [],
  ◌∷◌,
  ◌++◌,
  Option,
  None,
  IfSome,
  codes,
  if◌then◌else◌,
  length,
  slice_index,
  take,
}
use Rattle.std.specs.Str.{IsAscii}
use Rattle.std.specs.Str.Lines.{strip_carriage_return}
use Rattle.hex.specs.Hex.{encode_lower}
use Rattle.sha2.specs.Sha256.{sha256}
use Rattle.opc_names.specs.Names.{name_fault, user_rule}
use Rattle.opc_reader_commands.specs.Stretches.{folded}

-- the most bytes that are read: of a password, a carriage return and a line feed
abbrev pub most : ℕ
most = 10

-- what stands up to the first line feed, including it
abbrev pub through_feed : List ℕ → List ℕ
through_feed [] = []
through_feed (c ∷ rest) = if c == 10 then c ∷ [] else c ∷ through_feed rest

-- the first line of what the input has left, if that is known, with its end
abbrev pub IsTyped : (left : Option (List ℕ)) → (typed : List ℕ) → Type 0
IsTyped left typed = IfSome left (λ all. typed ≡ through_feed (take most all))

-- The line without its end: a line feed (10), or a carriage return and a line feed. Nothing else ends a line.
abbrev pub line_of : (typed : List ℕ) → List ℕ
line_of typed =
    if slice_index typed (length typed - 1) == 10 then strip_carriage_return (take (length typed - 1) typed) else typed

-- A line is a password by the rules once it is folded to capitals, as at LOGON.
abbrev pub IsPassword : (line : List ℕ) → Type 0
IsPassword line = IsAscii line × (name_fault user_rule (folded line) ≡ None)

-- the line that is printed of it: the 64 digits of the SHA-256 of the password
abbrev pub digest_line : (password : List ℕ) → List ℕ
digest_line password = encode_lower (sha256 password) ++ codes "\n"
