-- Quoted text.
use Rattle.std.specs.Prelude.{
  ℕ,
  ◌+◌,
  ◌≡◌,
  ◌==◌,
  ◌&&◌,
  Bool,
  false,
  List,
  [],
  ◌∷◌,
  ◌++◌,
  Option,
  Some,
  None,
  if◌then◌else◌,
  length,
}
use Rattle.std.specs.Option.{option_map, is_none}
use Rattle.opc_reader_commands.specs.Stretches.{folded}

-- a text with each apostrophe as a pair
abbrev pub doubled : List ℕ → List ℕ
doubled [] = []
doubled (c ∷ text) = if c == 39 then 39 ∷ (39 ∷ doubled text) else c ∷ doubled text

-- a text as it is typed between apostrophes
abbrev pub quoted : List ℕ → List ℕ
quoted text = 39 ∷ (doubled text ++ 39 ∷ [])

-- begins with an apostrophe
abbrev pub OpensQuote : List ℕ → Type 0
OpensQuote [] = ⊥
OpensQuote (c ∷ text) = c ≡ 39

abbrev pub IsQuoted : List ℕ → Type 0
IsQuoted typed = (text : List ℕ) × (typed ≡ quoted text)

-- After an apostrophe: how many characters the quoted text has up to the one that closes it, which is the first that is
-- not one of a pair
abbrev pub closing_len : List ℕ → Option ℕ
closing_len [] = None
closing_len (c ∷ []) = if c == 39 then Some 1 else None
closing_len (c ∷ (d ∷ cs)) =
    if c == 39 then (if d == 39 then option_map (λ n. n + 2) (closing_len cs) else Some 1)
    else option_map (λ n. n + 1) (closing_len (d ∷ cs))

-- how many the quoted text has that a text begins with
abbrev pub quoted_len : List ℕ → Option ℕ
quoted_len [] = None
quoted_len (c ∷ cs) = if c == 39 then option_map (λ n. n + 1) (closing_len cs) else None

-- the whole text is quoted text
abbrev pub ends_at : Option ℕ → ℕ → Bool
ends_at None n = false
ends_at (Some m) n = m == n

abbrev pub is_quoted : List ℕ → Bool
is_quoted [] = false
is_quoted (c ∷ cs) = (c == 39) && ends_at (closing_len cs) (length cs)

-- a quoted text that is not closed
abbrev pub is_open : List ℕ → Bool
is_open [] = false
is_open (c ∷ cs) = (c == 39) && is_none (closing_len cs)

abbrev pub opens_quote : List ℕ → Bool
opens_quote [] = false
opens_quote (c ∷ cs) = c == 39

-- the text after the first apostrophe, up to the one that closes it
abbrev pub unquoted : List ℕ → List ℕ
unquoted [] = []
unquoted (c ∷ []) = if c == 39 then [] else c ∷ []
unquoted (c ∷ (d ∷ cs)) =
    if c == 39 then (if d == 39 then 39 ∷ unquoted cs else []) else c ∷ unquoted (d ∷ cs)

-- what a text means
abbrev pub text_value : List ℕ → List ℕ
text_value [] = []
text_value (c ∷ cs) = if c == 39 then unquoted cs else folded (c ∷ cs)

-- a quoted text means what is between its apostrophes, with each pair as one; any other means itself in upper case
pub record Says (typed value : List ℕ) : Type 0 where
  pub between : (text : List ℕ) → typed ≡ quoted text → value ≡ text
  pub plain : (OpensQuote typed → ⊥) → value ≡ folded typed
