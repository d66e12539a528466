-- Which of two patterns is the more specific, and what patterns cover, for those who write them.
use Rattle.std.specs.Prelude.{◌≡◌, ◌≢◌, ℕ, Bool, true, false, List, [], ◌∷◌, ◌++◌, Contains, codes}
use Rattle.opc_names.specs.declared.token.Token.{Token}
use Rattle.opc_names.specs.declared.token.Token.TheVariants.{Literal, Percent, Star, Stars}
use Rattle.opc_names.specs.Order.{Before}
use Rattle.opc_names.specs.Patterns.{covers_text}

-- What a token stands for: a character for itself, `%` for any one that is not a period, `*` for any number of those,
-- and `**` for any text.
abbrev pub StandsFor : Token → List ℕ → Type 0
StandsFor (Literal c) text = text ≡ c ∷ []
StandsFor Percent text = (c : ℕ) × (text ≡ c ∷ []) × (c ≢ 46)
StandsFor Star text = (c : ℕ) → Contains text c → c ≢ 46
StandsFor Stars text = Unit {0}

-- One token stands for less than another.
pub record IsNarrower (t u : Token) : Type 0 where
  pub within : (text : List ℕ) → StandsFor t text → StandsFor u text
  pub other : t ≢ u

-- At the first difference of two patterns, the one whose token stands for less comes before the other.
abbrev pub NarrowerComesFirst : Type 0
NarrowerComesFirst = (common rest others : List Token) (t u : Token) → IsNarrower t u
    → Before (common ++ t ∷ rest) (common ++ u ∷ others)

-- Worked examples of what patterns cover, with `%`, `*` and `**` in a qualifier, at the end, and between others.
abbrev pub covered : List (List ℕ × List ℕ)
covered =
    (codes "A.B", codes "A.B") ∷ (codes "A.%", codes "A.B") ∷ (codes "A.B%D", codes "A.BCD")
    ∷ (codes "A.*", codes "A.B") ∷ (codes "A.*", codes "A.B.C") ∷ (codes "A.B*", codes "A.B")
    ∷ (codes "A.B*", codes "A.BC.D")
    ∷ (codes "A.*.C", codes "A.B.C") ∷ (codes "**", codes "A.B.C") ∷ (codes "A.**", codes "A")
    ∷ (codes "A.**", codes "A.B.C")
    ∷ (codes "A.**.D", codes "A.D") ∷ (codes "A.**.D", codes "A.B.C.D") ∷ []

abbrev pub uncovered : List (List ℕ × List ℕ)
uncovered =
    (codes "A.B", codes "A.C") ∷ (codes "A.B", codes "A.B.C") ∷ (codes "A.%", codes "A.BC")
    ∷ (codes "A.B%", codes "A.B")
    ∷ (codes "A.%", codes "A") ∷ (codes "A.*", codes "A") ∷ (codes "A.B*", codes "A.C")
    ∷ (codes "A.*.C", codes "A.B.B.C") ∷ (codes "A.*.C", codes "A.C")
    ∷ (codes "A.**", codes "B.A") ∷ (codes "A.**.D", codes "A.D.E") ∷ []

abbrev pub AreCovered : List (List ℕ × List ℕ) → Bool → Type 0
AreCovered [] so = Unit {0}
AreCovered (example ∷ more) so = (covers_text example.0 example.1 ≡ so) × AreCovered more so

pub record PatternsCoverSo : Type 0 where
  pub these : AreCovered covered true
  pub not_those : AreCovered uncovered false
