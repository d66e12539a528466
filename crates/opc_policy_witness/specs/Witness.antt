-- Resources of a form that all patterns of one list cover and none of another.
use Rattle.std.specs.Prelude.{◌≡◌, ◌≢◌, ◌≤◌, ℕ, ◌+◌, ◌&&◌, Bool, true, not, false, List, [], ◌∷◌, ◌++◌, length, map}
use Rattle.std.specs.List.{AllByRecursion, list_all, list_any}
use Rattle.opc_names.specs.Names.{qualifiers}
use Rattle.opc_names.specs.Patterns.{CoversText, covers, tokens}
use Rattle.opc_policy_witness.specs.declared.forms.FormQualifier.{FormQualifier}
use Rattle.opc_policy_witness.specs.declared.pieces.FormPiece.{FormPiece}
use Rattle.opc_policy_witness.specs.declared.pieces.FormPiece.TheVariants.{Word, Name}
use Rattle.opc_policy_witness.specs.Forms.{AreOf, AreWidths, IsPart, pieces_of, places, total}
use Rattle.opc_policy_witness.specs.Masks.{may_stand_all}
use Rattle.opc_policy_witness.specs.Pieces.{filled}

pub record IsWitness (form : List FormQualifier) (include exclude : List (List ℕ)) (resource : List ℕ) : Type 0 where
  pub of_form : AreOf form (qualifiers resource)
  pub covered : AllByRecursion (λ pattern. CoversText pattern resource) include
  pub uncovered : AllByRecursion (λ pattern. CoversText pattern resource → ⊥) exclude

-- Covering of qualifiers, computed.
abbrev pub covers_parts : List (List ℕ) → List ℕ → Bool
covers_parts parts pattern = covers (map tokens (qualifiers pattern)) parts

abbrev pub lies_between : List (List ℕ) → List (List ℕ) → List (List ℕ) → Bool
lies_between include exclude parts =
    list_all (covers_parts parts) include && not (list_any (covers_parts parts) exclude)

-- Names that stand in these pieces so that the resource lies between.
abbrev pub is_found : List FormPiece → List (List ℕ) → List (List ℕ) → List ℕ → Bool
is_found pieces include exclude s =
    may_stand_all (places pieces) s && lies_between include exclude (filled pieces s)

-- the text of a resource with these qualifiers
abbrev pub joined : List (List ℕ) → List ℕ
joined [] = []
joined (part ∷ []) = part
joined (part ∷ (next ∷ parts)) = part ++ 46 ∷ joined (next ∷ parts)

-- pieces whose resources have a text: words and names are not empty, and there is room for all and a period after each
abbrev pub IsFinePiece : FormPiece → Type 0
IsFinePiece (Word text) = IsPart text.now
IsFinePiece (Name first width) = 1 ≤ width

abbrev pub room_of : FormPiece → ℕ
room_of (Word text) = length text.now
room_of (Name first width) = width

abbrev pub room : List FormPiece → ℕ
room [] = 0
room (piece ∷ pieces) = room_of piece + 1 + room pieces

pub record HaveText (pieces : List FormPiece) : Type 0 where
  pub some : pieces ≢ []
  pub fine : AllByRecursion IsFinePiece pieces
  pub short : room pieces ≤ 40

-- a resource of these pieces that lies between
abbrev pub LiesIn : List FormPiece → List (List ℕ) → List (List ℕ) → List ℕ → Type 0
LiesIn pieces include exclude resource =
    (s : List ℕ) × (is_found pieces include exclude s ≡ true) × (resource ≡ joined (filled pieces s))

-- A resource that lies between, of these pieces and of names of so many characters in the places of a form after them.
pub record IsPlaced (pieces : List FormPiece) (form : List FormQualifier) (include exclude : List (List ℕ)) (size : ℕ)
    (resource : List ℕ) : Type 0 where
  pub widths : List ℕ
  pub characters : List ℕ
  pub are : AreWidths form widths
  pub in_all : total widths ≡ size
  pub found : is_found (pieces ++ pieces_of form widths) include exclude characters ≡ true
  pub text : resource ≡ joined (filled (pieces ++ pieces_of form widths) characters)

-- there is none
abbrev pub NonePlaced : List FormPiece → List FormQualifier → List (List ℕ) → List (List ℕ) → ℕ → Type 0
NonePlaced pieces form include exclude size =
    (widths characters : List ℕ) → AreWidths form widths → total widths ≡ size
    → is_found (pieces ++ pieces_of form widths) include exclude characters ≡ false
