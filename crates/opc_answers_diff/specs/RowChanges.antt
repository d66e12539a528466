-- The rows of two exports: which are gone, which are new and which are changed. How a file is written does not count.
use Rattle.std.specs.Prelude.{Bool, false, not, List, [], ◌∷◌, Option, Some, None, filter, if◌then◌else◌, map}
use Rattle.std.specs.BTreeMap.{BTreeMap, get}
use Rattle.std.specs.BTreeSet.{insert_key}
use Rattle.std.specs.Option.{option_eq, option_or}
use Rattle.std.specs.Ordering.{is_eq}
use Rattle.opc_names.specs.Order.{sort_key}
use Rattle.opc_names.specs.declared.class.Class.TheVariants.{Console, Opercmds}
use Rattle.opc_policy_members.specs.declared.row.Row.{Row}
use Rattle.opc_policy_members.specs.declared.row.Row.TheVariants as rows
use Rattle.opc_policy_members.specs.contracts.row.RowPartialEq.TheImpl as of_row
use Rattle.opc_answers_diff.specs.declared.row_place.RowPlace.{RowPlace}
use Rattle.opc_answers_diff.specs.declared.row_place.RowPlace.TheVariants as place
use Rattle.opc_answers_diff.specs.contracts.row_place.RowPlaceOrd.TheImpl.{ghosts}
use Rattle.opc_answers_diff.specs.declared.row_changes.RowChange.{RowChange}

-- Where a row stands in an export: by its kind and by what it defines, profiles in the order of their patterns.
abbrev pub place_of : Row → RowPlace
place_of (rows.Class class active) = place.Class class
place_of (rows.Group name) = place.Group name
place_of (rows.User user) = place.User user.id
place_of (rows.Connect user group) = place.Connect user group
place_of (rows.Console name auth mode) = place.Console name
place_of (rows.Profile class pattern uacc owner warning) = place.Profile class (sort_key pattern)
place_of (rows.Permit class pattern id level when) = place.Permit class (sort_key pattern) id when

abbrev pub stands_at : RowPlace → Row → Bool
stands_at place row = is_eq (ghosts.cmp (place_of row) place)

-- What rows have at a place: the last of them there.
abbrev pub row_at : List Row → RowPlace → Option Row
row_at [] place = None
row_at (row ∷ rows) place = option_or (row_at rows place) (if stands_at place row then Some row else None)

-- a class that no row names is inactive
abbrev pub with_classes : List Row → List Row
with_classes list = rows.Class Console false ∷ rows.Class Opercmds false ∷ list

-- the places of some rows among others, in order
abbrev pub places_with : List Row → List RowPlace → List RowPlace
places_with [] places = places
places_with (row ∷ rows) places = places_with rows (insert_key ghosts.cmp places (place_of row))

-- each place of either side, with the rows there, if they differ
abbrev pub row_change : (before after : List Row) → RowPlace → RowChange
row_change before after place = record { before = row_at before place; after = row_at after place }

-- the same of the rows that two maps have at their places
abbrev pub change_at : (before after : BTreeMap RowPlace Row) → RowPlace → RowChange
change_at before after place = record { before = get ghosts.cmp before place; after = get ghosts.cmp after place }

abbrev pub differs : RowChange → Bool
differs change = not (option_eq of_row.eq-value.it change.before change.after)

abbrev pub changes_of : (before after : List Row) → List RowChange
changes_of before after = filter differs (map (row_change before after) (places_with after (places_with before [])))

abbrev pub row_changes : (before after : List Row) → List RowChange
row_changes before after = changes_of (with_classes before) (with_classes after)
