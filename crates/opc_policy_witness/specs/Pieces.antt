-- Resources whose names have a fixed number of characters, and the masks of a pattern over them.
use Rattle.std.specs.Prelude.{
  ℕ,
  zero,
  suc,
  ◌+◌,
  ◌==◌,
  ◌&&◌,
  ◌||◌,
  is_some,
  Bool,
  true,
  false,
  if◌then◌else◌,
  List,
  [],
  ◌∷◌,
  ◌++◌,
  Option,
  Some,
  None,
  drop,
  map,
  replicate,
  take,
}
use Rattle.std.specs.Option.{option_map}
use Rattle.opc_names.specs.declared.token.Token.{Token}
use Rattle.opc_names.specs.declared.token.Token.TheVariants.{Literal, Percent, Star, Stars}
use Rattle.opc_names.specs.Patterns.{ends_in_star, is_empty, matches}
use Rattle.opc_policy_witness.specs.declared.pieces.FormPiece.{FormPiece}
use Rattle.opc_policy_witness.specs.declared.pieces.FormPiece.TheVariants.{Word, Name}

-- how many characters of names a piece has
abbrev pub width : FormPiece → ℕ
width (Word text) = 0
width (Name first length) = length

abbrev pub size : List FormPiece → ℕ
size [] = 0
size (piece ∷ pieces) = width piece + size pieces

-- the qualifiers of the resource in which these are the characters of all names, one after another
abbrev pub qualifier : FormPiece → List ℕ → List ℕ
qualifier (Word text) s = text.now
qualifier (Name first length) s = s

abbrev pub filled : List FormPiece → List ℕ → List (List ℕ)
filled [] s = []
filled (piece ∷ pieces) s = qualifier piece (take (width piece) s) ∷ filled pieces (drop (width piece) s)

-- what a token of one character asks of a place, if it is no `*`
abbrev pub cell_of : ℕ → Option ℕ
cell_of c = if c == 37 then None else Some c

-- what a qualifier of a pattern asks of a name of so many characters, none if it matches no such name
abbrev pub spread : List Token → ℕ → Option (List (Option ℕ))
spread [] zero = Some []
spread [] (suc n) = None
spread (Literal c ∷ q) zero = None
spread (Literal c ∷ q) (suc n) = option_map (λ mask. Some c ∷ mask) (spread q n)
spread (Percent ∷ q) zero = None
spread (Percent ∷ q) (suc n) = option_map (λ mask. None ∷ mask) (spread q n)
spread (Star ∷ q) n = Some (replicate n None)
spread (Stars ∷ q) n = None

-- the same of a piece
abbrev pub mask_of : List Token → FormPiece → Option (List (Option ℕ))
mask_of q (Word text) = if matches q text.now then Some [] else None
mask_of q (Name first length) = spread q length

-- a mask that any names fit
abbrev pub open_mask : List FormPiece → List (Option ℕ)
open_mask [] = []
open_mask (piece ∷ pieces) = replicate (width piece) None ++ open_mask pieces

abbrev pub behind : Option (List (Option ℕ)) → List (List (Option ℕ)) → List (List (Option ℕ))
behind None masks = []
behind (Some mask) masks = map (λ rest. mask ++ rest) masks

-- the masks behind `**`, which stands for no piece, for one, and so on
abbrev pub skipping : (List FormPiece → List (List (Option ℕ))) → List FormPiece → List (List (Option ℕ))
skipping masks [] = masks []
skipping masks (piece ∷ pieces) =
    masks (piece ∷ pieces) ++ map (λ rest. replicate (width piece) None ++ rest) (skipping masks pieces)

-- The masks of a pattern: names fit one of them if and only if the pattern covers the resource. Of `**` before `**` one
-- is enough.
abbrev pub masks_of : List (List Token) → List FormPiece → List (List (Option ℕ))
masks_of [] [] = [] ∷ []
masks_of [] (piece ∷ pieces) = []
masks_of ((Stars ∷ q) ∷ ((Stars ∷ r) ∷ p)) pieces = masks_of ((Stars ∷ r) ∷ p) pieces
masks_of ((Stars ∷ q) ∷ p) pieces = skipping (masks_of p) pieces
masks_of (q ∷ p) [] = []
masks_of (q ∷ p) (piece ∷ pieces) =
    behind (mask_of q piece) (if is_empty p && ends_in_star q then open_mask pieces ∷ [] else masks_of p pieces)

abbrev pub begins_with_stars : List (List Token) → Bool
begins_with_stars [] = false
begins_with_stars ([] ∷ p) = false
begins_with_stars ((Literal c ∷ q) ∷ p) = false
begins_with_stars ((Percent ∷ q) ∷ p) = false
begins_with_stars ((Star ∷ q) ∷ p) = false
begins_with_stars ((Stars ∷ q) ∷ p) = true

-- whether a pattern may cover a resource that begins with these pieces, by its qualifiers before `**`
abbrev pub may_begin : List (List Token) → List FormPiece → Bool
may_begin p [] = true
may_begin [] (piece ∷ pieces) = false
may_begin ((Stars ∷ q) ∷ p) (piece ∷ pieces) = true
may_begin (q ∷ p) (piece ∷ pieces) =
    is_some (mask_of q piece) && (is_empty p && ends_in_star q || may_begin p pieces)
