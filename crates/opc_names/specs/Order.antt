-- The order of patterns, their sort keys and their heads. A pattern that is more specific comes before.
use Rattle.std.specs.Prelude.{
  ◌≡◌,
  ℕ,
  ◌<◌,
  Bool,
  true,
  false,
  ◌&&◌,
  ◌==◌,
  if◌then◌else◌,
  List,
  [],
  ◌∷◌,
  ◌++◌,
  map,
  ◌⊎◌,
  ⊤,
}
use Rattle.opc_names.specs.declared.token.Token.{Token}
use Rattle.opc_names.specs.declared.token.Token.TheVariants.{Literal, Percent, Star, Stars}
use Rattle.opc_names.specs.Patterns.{tokens}

-- a character comes before `%`, `%` before `*`, `*` before `**`, and characters go by their code
abbrev pub Earlier : Token → Token → Type 0
Earlier (Literal a) (Literal b) = a < b
Earlier (Literal a) Percent = ⊤
Earlier (Literal a) Star = ⊤
Earlier (Literal a) Stars = ⊤
Earlier Percent Star = ⊤
Earlier Percent Stars = ⊤
Earlier Star Stars = ⊤
Earlier t u = ⊥

-- the last token is `*` or `**`
abbrev pub EndsOpen : List Token → Type 0
EndsOpen ts = (prefix : List Token) × ((ts ≡ prefix ++ Star ∷ []) ⊎ (ts ≡ prefix ++ Stars ∷ []))

-- what decides after a common part: the earlier token; if one pattern ends, it comes first, unless the common part
-- leaves open what follows
abbrev pub Decides : List Token → List Token → List Token → Type 0
Decides common [] [] = ⊥
Decides common [] (u ∷ q) = EndsOpen common → ⊥
Decides common (t ∷ p) [] = EndsOpen common
Decides common (t ∷ p) (u ∷ q) = Earlier t u

-- the pattern with these tokens comes before that with those
abbrev pub Before : List Token → List Token → Type 0
Before p q = (common p' q' : List Token) × (p ≡ common ++ p') × (q ≡ common ++ q') × Decides common p' q'

-- the byte of a token in a sort key
abbrev pub key_byte : Token → ℕ
key_byte (Literal c) = c
key_byte Percent = 128
key_byte Star = 129
key_byte Stars = 130

-- `*` and `**`
abbrev pub is_open : Token → Bool
is_open (Literal c) = false
is_open Percent = false
is_open Star = true
is_open Stars = true

-- whether the last token is `*` or `**`
abbrev pub ends_open : List Token → Bool
ends_open [] = false
ends_open (t ∷ []) = is_open t
ends_open (t ∷ (u ∷ ts)) = ends_open (u ∷ ts)

-- The sort key of a pattern: a byte for each token, and one more after a last `*` or `**`.
abbrev pub sort_key : List ℕ → List ℕ
sort_key text = map key_byte (tokens text) ++ (if ends_open (tokens text) then 255 ∷ [] else [])

-- whether the first token is `**`
abbrev pub begins_with_stars : List Token → Bool
begins_with_stars [] = false
begins_with_stars (Literal c ∷ ts) = false
begins_with_stars (Percent ∷ ts) = false
begins_with_stars (Star ∷ ts) = false
begins_with_stars (Stars ∷ ts) = true

-- The head of a pattern: the text before its first `%`, `*` or `**`, without a period right before `**`.
abbrev pub head : List Token → List ℕ
head [] = []
head (Literal c ∷ ts) = if (c == 46) && begins_with_stars ts then [] else c ∷ head ts
head (Percent ∷ ts) = []
head (Star ∷ ts) = []
head (Stars ∷ ts) = []
