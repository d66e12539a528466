-- Patterns of resource names: their tokens, what they cover, and their order.
use Rattle.std.specs.Prelude.{
  ◌≡◌,
  ℕ,
  ◌&&◌,
  ◌||◌,
  ◌==◌,
  if◌then◌else◌,
  Bool,
  true,
  false,
  List,
  [],
  ◌∷◌,
  ◌++◌,
  map,
  ◌⊎◌,
  ⊤,
}
use Rattle.std.specs.List.{list_any}
use Rattle.opc_names.specs.Names.{qualifiers}
use Rattle.opc_names.specs.declared.token.Token.{Token}
use Rattle.opc_names.specs.declared.token.Token.TheVariants.{Literal, Percent, Star, Stars}

-- the token of one character
abbrev pub token_of : ℕ → Token
token_of c = if c == 42 then Star else (if c == 37 then Percent else Literal c)

-- the text of a token
abbrev pub spelling : Token → List ℕ
spelling (Literal c) = c ∷ []
spelling Percent = 37 ∷ []
spelling Star = 42 ∷ []
spelling Stars = 42 ∷ 42 ∷ []

-- the tokens of a pattern's text, in which `**` is one
abbrev pub tokens : List ℕ → List Token
tokens [] = []
tokens (c ∷ []) = token_of c ∷ []
tokens (c ∷ (d ∷ cs)) = if (c == 42) && (d == 42) then Stars ∷ tokens cs else token_of c ∷ tokens (d ∷ cs)

-- A qualifier of a pattern other than `**` matches one of a name: each character stands for itself and
-- each `%` for any one, up to a `*`, which stands for all that is left of the qualifier.
abbrev pub Matches : List Token → List ℕ → Type 0
Matches [] [] = ⊤
Matches [] (c ∷ s) = ⊥
Matches (Literal a ∷ q) [] = ⊥
Matches (Literal a ∷ q) (c ∷ s) = (a ≡ c) × Matches q s
Matches (Percent ∷ q) [] = ⊥
Matches (Percent ∷ q) (c ∷ s) = Matches q s
Matches (Star ∷ q) s = ⊤
Matches (Stars ∷ q) s = ⊥

-- the last token is a `*`, the only one
abbrev pub EndsInStar : List Token → Type 0
EndsInStar [] = ⊥
EndsInStar (Literal c ∷ q) = EndsInStar q
EndsInStar (Percent ∷ q) = EndsInStar q
EndsInStar (Star ∷ q) = q ≡ []
EndsInStar (Stars ∷ q) = ⊥

-- What a pattern covers, from qualifier to qualifier: `**` stands for any number of qualifiers, or none; any other for
-- one that it matches; and the last one, if it ends in `*`, also for all that follow.
abbrev pub Covers : List (List Token) → List (List ℕ) → Type 0
Covers [] [] = ⊤
Covers [] (s ∷ r) = ⊥
Covers ((Stars ∷ q) ∷ p) r = (skipped rest : List (List ℕ)) × (r ≡ skipped ++ rest) × Covers p rest
Covers (q ∷ p) [] = ⊥
Covers (q ∷ p) (s ∷ r) = Matches q s × (((p ≡ []) × EndsInStar q) ⊎ Covers p r)

-- Covering, computed, from here on. Whether a qualifier of a pattern other than `**` matches one of a name
abbrev pub matches : List Token → List ℕ → Bool
matches [] [] = true
matches [] (c ∷ s) = false
matches (Literal a ∷ q) [] = false
matches (Literal a ∷ q) (c ∷ s) = (a == c) && matches q s
matches (Percent ∷ q) [] = false
matches (Percent ∷ q) (c ∷ s) = matches q s
matches (Star ∷ q) s = true
matches (Stars ∷ q) s = false

-- whether the last token is a `*`, the only one
abbrev pub ends_in_star : List Token → Bool
ends_in_star [] = false
ends_in_star (Literal c ∷ q) = ends_in_star q
ends_in_star (Percent ∷ q) = ends_in_star q
ends_in_star (Star ∷ []) = true
ends_in_star (Star ∷ (t ∷ q)) = false
ends_in_star (Stars ∷ q) = false

-- whether no qualifier of a pattern is left
abbrev pub is_empty : List (List Token) → Bool
is_empty [] = true
is_empty (q ∷ p) = false

-- the suffixes of a name: all its qualifiers, all but the first, and so on to none
abbrev pub suffixes : List (List ℕ) → List (List (List ℕ))
suffixes [] = [] ∷ []
suffixes (s ∷ r) = (s ∷ r) ∷ suffixes r

-- whether a pattern covers a name: `**` and the rest, if the rest covers some suffix of it; any other qualifier and the
-- rest, if it matches the first of the name, and the rest covers what follows that, or it is the last one and ends in
-- `*`
abbrev pub covers : List (List Token) → List (List ℕ) → Bool
covers [] [] = true
covers [] (s ∷ r) = false
covers ((Stars ∷ q) ∷ p) r = list_any (covers p) (suffixes r)
covers (q ∷ p) [] = false
covers (q ∷ p) (s ∷ r) = matches q s && (is_empty p && ends_in_star q || covers p r)

-- the pattern with this text covers the name with that one
abbrev pub CoversText : List ℕ → List ℕ → Type 0
CoversText p r = Covers (map tokens (qualifiers p)) (qualifiers r)

-- whether the pattern with this text covers the name with that one
abbrev pub covers_text : List ℕ → List ℕ → Bool
covers_text p r = covers (map tokens (qualifiers p)) (qualifiers r)
