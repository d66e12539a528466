-- Forms of resources: some words, and any names of units and consoles.
use Rattle.std.specs.Prelude.{◌≡◌, ◌≢◌, ◌≤◌, ℕ, zero, suc, ◌+◌, true, List, [], ◌∷◌, ◌++◌, length, replicate, None, ⊤}
use Rattle.std.specs.List.{AllByRecursion, list_all}
use Rattle.opc_names.specs.Names.{console_rule, is_name_character, name_fault, unit_rule}
use Rattle.opc_policy_witness.specs.declared.forms.FormQualifier.{FormQualifier}
use Rattle.opc_policy_witness.specs.declared.forms.FormQualifier.TheVariants.{Word, AnyUnit, AnyConsole}
use Rattle.opc_policy_witness.specs.declared.pieces.FormPiece.{FormPiece}
use Rattle.opc_policy_witness.specs.declared.pieces.FormPiece.TheVariants as piece
use Rattle.opc_policy_witness.specs.declared.places.NamePlace.{NamePlace}
use Rattle.opc_policy_witness.specs.declared.places.NamePlace.TheVariants.{Character, NoDigit}

-- whether a text may stand for a qualifier of a form, and texts for those of a form
abbrev pub IsOf : FormQualifier → List ℕ → Type 0
IsOf (Word text) s = s ≡ text.now
IsOf AnyUnit s = name_fault unit_rule s ≡ None
IsOf AnyConsole s = name_fault console_rule s ≡ None

abbrev pub AreOf : List FormQualifier → List (List ℕ) → Type 0
AreOf [] [] = ⊤
AreOf [] (s ∷ r) = ⊥
AreOf (f ∷ form) [] = ⊥
AreOf (f ∷ form) (s ∷ r) = IsOf f s × AreOf form r

-- how many characters it has at most, and those of a form with a period after each
abbrev pub most : FormQualifier → ℕ
most (Word text) = length text.now
most AnyUnit = 8
most AnyConsole = 8

abbrev pub most_of_all : List FormQualifier → ℕ
most_of_all [] = 0
most_of_all (f ∷ form) = most f + 1 + most_of_all form

-- a text that may be a qualifier of a resource
abbrev pub IsPart : List ℕ → Type 0
IsPart text = (text ≢ []) × (list_all is_name_character text ≡ true)

abbrev pub IsFine : FormQualifier → Type 0
IsFine (Word text) = IsPart text.now
IsFine AnyUnit = ⊤
IsFine AnyConsole = ⊤

-- a form whose texts are resources
pub record IsForm (form : List FormQualifier) : Type 0 where
  pub some : form ≢ []
  pub fine : AllByRecursion IsFine form
  pub room : most_of_all form ≤ 40

-- Names of a fixed number of characters in the places of a form, of a word none.
abbrev pub least_width : FormQualifier → ℕ
least_width (Word text) = 0
least_width AnyUnit = 1
least_width AnyConsole = 2

abbrev pub most_width : FormQualifier → ℕ
most_width (Word text) = 0
most_width AnyUnit = 8
most_width AnyConsole = 8

abbrev pub piece_of : FormQualifier → ℕ → FormPiece
piece_of (Word text) width = piece.Word text
piece_of AnyUnit width = piece.Name Character width
piece_of AnyConsole width = piece.Name NoDigit width

abbrev pub AreWidths : List FormQualifier → List ℕ → Type 0
AreWidths [] [] = ⊤
AreWidths [] (width ∷ widths) = ⊥
AreWidths (f ∷ form) [] = ⊥
AreWidths (f ∷ form) (width ∷ widths) = (least_width f ≤ width) × (width ≤ most_width f) × AreWidths form widths

abbrev pub pieces_of : List FormQualifier → List ℕ → List FormPiece
pieces_of [] widths = []
pieces_of (f ∷ form) [] = []
pieces_of (f ∷ form) (width ∷ widths) = piece_of f width ∷ pieces_of form widths

abbrev pub total : List ℕ → ℕ
total [] = 0
total (width ∷ widths) = width + total widths

abbrev pub most_size : List FormQualifier → ℕ
most_size [] = 0
most_size (f ∷ form) = most_width f + most_size form

-- the words with which a form begins, and what follows them
abbrev pub first_words : List FormQualifier → List FormPiece
first_words [] = []
first_words (Word text ∷ form) = piece.Word text ∷ first_words form
first_words (AnyUnit ∷ form) = []
first_words (AnyConsole ∷ form) = []

abbrev pub behind_words : List FormQualifier → List FormQualifier
behind_words [] = []
behind_words (Word text ∷ form) = behind_words form
behind_words (AnyUnit ∷ form) = AnyUnit ∷ form
behind_words (AnyConsole ∷ form) = AnyConsole ∷ form

-- the places of the characters of all names, one after another
abbrev pub name_places : NamePlace → ℕ → List NamePlace
name_places first zero = []
name_places first (suc n) = first ∷ replicate n Character

abbrev pub piece_places : FormPiece → List NamePlace
piece_places (piece.Word text) = []
piece_places (piece.Name first width) = name_places first width

abbrev pub places : List FormPiece → List NamePlace
places [] = []
places (p ∷ pieces) = piece_places p ++ places pieces
