-- Where the patterns of one side stand that may decide with one of the other side.
use Rattle.std.specs.Prelude.{
  ◌≡◌,
  ◌⊎◌,
  ◌≤◌,
  ◌<◌,
  ◌+◌,
  ℕ,
  Bool,
  true,
  false,
  List,
  [],
  ◌∷◌,
  Option,
  Some,
  slice_index_or,
}
use Rattle.std.specs.List.{slice_get}
use Rattle.opc_names.specs.Order.{sort_key}
use Rattle.opc_names_keys.specs.Follows.{follows}
use Rattle.opc_policy_members.specs.declared.policy.Policy.{Policy}
use Rattle.opc_policy_deciders.specs.Decided.{ArePatternsOf}
use Rattle.opc_policy_deciders.specs.Pairs.{NoneDecidedByBoth}

-- the places of those that are on one side alone, counted from one on
abbrev pub places_alone : (from : ℕ) → (stand : List Bool) → List ℕ
places_alone from [] = []
places_alone from (true ∷ stand) = places_alone (from + 1) stand
places_alone from (false ∷ stand) = from ∷ places_alone (from + 1) stand

-- A text differs from the sort key of each pattern from one place up to another, before the key's first `*` or `**`.
abbrev pub DiffersAt : (text : List ℕ) → List (List ℕ) → (place : ℕ) → Type 0
DiffersAt text patterns place = (d : List ℕ) → follows (sort_key (slice_index_or patterns place d)) text ≡ false

abbrev pub DiffersBetween : (text : List ℕ) → List (List ℕ) → (from upto : ℕ) → Type 0
DiffersBetween text patterns from upto = (place : ℕ) → from ≤ place → place < upto → DiffersAt text patterns place

-- the same, but those that are on both sides may be skipped
abbrev pub IsPassed : (skips : Bool) → (text : List ℕ) → List (List ℕ) → (stand : List Bool) → (place : ℕ) → Type 0
IsPassed skips text patterns stand place =
    ((skips ≡ true) × (slice_get stand place ≡ Some true)) ⊎ DiffersAt text patterns place

abbrev pub ArePassed : (skips : Bool) → (text : List ℕ) → List (List ℕ) → (stand : List Bool) → (from upto : ℕ) → Type 0
ArePassed skips text patterns stand from upto =
    (place : ℕ) → from ≤ place → place < upto → IsPassed skips text patterns stand place

-- Of the places from one up to another, none decides a resource with what decides on the other side.
abbrev pub NoneDecidedWith : (one two : Policy) → Option (List ℕ) → (others : List (List ℕ)) → (from upto : ℕ) → Type 0
NoneDecidedWith one two pattern others from upto =
    (place : ℕ) → from ≤ place → place < upto → NoneDecidedByBoth one two pattern (slice_get others place)

abbrev pub NoneDecidedBetween : (patterns others : List (List ℕ)) → (at from upto : ℕ) → Type 0
NoneDecidedBetween patterns others at from upto =
    (one two : Policy) → ArePatternsOf one patterns → ArePatternsOf two others
    → NoneDecidedWith one two (slice_get patterns at) others from upto
