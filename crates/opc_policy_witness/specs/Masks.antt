-- Names of a fixed number of characters, and what patterns ask of each.
use Rattle.std.specs.Prelude.{
  ℕ,
  ◌==◌,
  ◌&&◌,
  Bool,
  true,
  false,
  not,
  if◌then◌else◌,
  is_none,
  length,
  List,
  [],
  ◌∷◌,
  Option,
  Some,
  None,
}
use Rattle.std.specs.Char.{is_ascii_digit}
use Rattle.std.specs.List.{filter_map, list_all, list_any, position}
use Rattle.std.specs.Option.{option_map}
use Rattle.opc_names.specs.Names.{is_name_character}
use Rattle.opc_policy_witness.specs.declared.places.NamePlace.{NamePlace}
use Rattle.opc_policy_witness.specs.declared.places.NamePlace.TheVariants.{Character, NoDigit}

-- which characters may stand at a place of a name
abbrev pub may_stand : NamePlace → ℕ → Bool
may_stand Character c = is_name_character c
may_stand NoDigit c = is_name_character c && not (is_ascii_digit c)

abbrev pub may_stand_all : List NamePlace → List ℕ → Bool
may_stand_all [] [] = true
may_stand_all [] (c ∷ s) = false
may_stand_all (place ∷ places) [] = false
may_stand_all (place ∷ places) (c ∷ s) = may_stand place c && may_stand_all places s

-- A mask has for each place the character that has to stand there, or none if any may.
abbrev pub fits_place : Option ℕ → ℕ → Bool
fits_place None c = true
fits_place (Some a) c = a == c

abbrev pub fits : List (Option ℕ) → List ℕ → Bool
fits [] [] = true
fits [] (c ∷ s) = false
fits (cell ∷ mask) [] = false
fits (cell ∷ mask) (c ∷ s) = fits_place cell c && fits mask s

abbrev pub fits_one : List (List (Option ℕ)) → List ℕ → Bool
fits_one masks s = list_any (λ mask. fits mask s) masks

-- a text that may stand at these places, fits one mask and none of the others
abbrev pub is_between : List NamePlace → List (Option ℕ) → List (List (Option ℕ)) → List ℕ → Bool
is_between places include exclude s = may_stand_all places s && (fits include s && not (fits_one exclude s))

-- the same for one of several
abbrev pub is_among : List NamePlace → List (List (Option ℕ)) → List (List (Option ℕ)) → List ℕ → Bool
is_among places include exclude s = may_stand_all places s && (fits_one include s && not (fits_one exclude s))

-- what two masks ask for together, if no place asks for two characters
abbrev pub common_cell : Option ℕ → Option ℕ → Option (Option ℕ)
common_cell None cell = Some cell
common_cell (Some a) None = Some (Some a)
common_cell (Some a) (Some b) = if a == b then Some (Some a) else None

abbrev pub behind_cell : Option (Option ℕ) → Option (List (Option ℕ)) → Option (List (Option ℕ))
behind_cell None rest = None
behind_cell (Some cell) rest = option_map (λ mask. cell ∷ mask) rest

abbrev pub merged : List (Option ℕ) → List (Option ℕ) → Option (List (Option ℕ))
merged [] [] = Some []
merged [] (cell ∷ mask) = None
merged (cell ∷ mask) [] = None
merged (cell ∷ mask) (cell' ∷ mask') = behind_cell (common_cell cell cell') (merged mask mask')

-- what is left of a mask after a character that fits its first place
abbrev pub left_after : ℕ → List (Option ℕ) → Option (List (Option ℕ))
left_after c [] = None
left_after c (cell ∷ mask) = if fits_place cell c then Some mask else None

abbrev pub after : ℕ → List (List (Option ℕ)) → List (List (Option ℕ))
after c masks = filter_map (left_after c) masks

-- whether a mask asks for this character first
abbrev pub asks_for : ℕ → List (Option ℕ) → Bool
asks_for c [] = false
asks_for c (None ∷ mask) = false
asks_for c (Some a ∷ mask) = a == c

-- Which of these characters is enough to try at a place: the one that is asked for; else one that none of the other
-- masks asks for.
abbrev pub enough : List ℕ → NamePlace → Option ℕ → List (List (Option ℕ)) → Option ℕ
enough characters place (Some a) masks = position (λ c. c == a) characters
enough characters place None masks =
    position (λ c. may_stand place c && not (list_any (asks_for c) masks)) characters

-- whether a mask fits each text of so many characters
abbrev pub takes_all : ℕ → List (Option ℕ) → Bool
takes_all count mask = (length mask == count) && list_all is_none mask

-- whether it fits each text that begins with a character and goes on with so many
abbrev pub left_takes : ℕ → Option (List (Option ℕ)) → Bool
left_takes count None = false
left_takes count (Some left) = takes_all count left

abbrev pub takes_behind : ℕ → ℕ → List (Option ℕ) → Bool
takes_behind c count mask = left_takes count (left_after c mask)
