-- The entries of groups, by their places.
use Rattle.std.specs.Prelude.{◌≡◌, ℕ, Bool, ◌&&◌, List, Option, Some, None, filter, filter_map, if◌then◌else◌, map}
use Rattle.std.specs.List.{list_any}
use Rattle.std.specs.Option.{option_eq}
use Rattle.std.specs.Str.{bytes_eq}
use Rattle.opc_names.specs.Authority.{same_class}
use Rattle.opc_policy_members.specs.declared.row.Row.{Row}
use Rattle.opc_policy_members.specs.declared.row.Row.TheVariants as rows
use Rattle.opc_check_notes.specs.contracts.entries.EntryPlaceOrd.TheImpl.{ghosts}
use Rattle.opc_check_notes.specs.declared.entries.EntryPlace.{EntryPlace}
use Rattle.opc_check_notes.specs.declared.names.Given.TheVariants as given
use Rattle.opc_check_notes.specs.declared.numbered.NumberedRow.{NumberedRow}
use Rattle.opc_check_notes.specs.SortedPairs.{at_key}
use Rattle.opc_check_notes.specs.Named.{is_named}

abbrev pub same_place : EntryPlace → EntryPlace → Bool
same_place place other = same_class place.class other.class
    && (bytes_eq place.pattern other.pattern && option_eq bytes_eq place.when other.when)

-- the place of an entry and whom it is for, if this is a group that somebody is in
abbrev pub placed : List NumberedRow → Row → Option (EntryPlace × List ℕ)
placed list (rows.Permit class pattern id level when) = if is_named list given.ConnectedGroup id
    then Some (record { class = class; pattern = pattern; when = when }, id) else None
placed list row = None

-- the same by the names of those groups
abbrev pub placed_by : List (List ℕ) → Row → Option (EntryPlace × List ℕ)
placed_by members (rows.Permit class pattern id level when) = if list_any (λ (n : List ℕ). bytes_eq n id) members
    then Some (record { class = class; pattern = pattern; when = when }, id) else None
placed_by members row = None

abbrev pub all_placed : List NumberedRow → List (EntryPlace × List ℕ)
all_placed list = filter_map (λ (at : NumberedRow). placed list at.row) list

-- the groups with somebody in them that have an entry at a place
abbrev pub groups_at : List NumberedRow → EntryPlace → List (List ℕ)
groups_at list place = map (λ (p : EntryPlace × List ℕ). p.1)
    (filter (λ (p : EntryPlace × List ℕ). same_place p.0 place) (all_placed list))

-- what is looked up by a place are those
abbrev pub HasPlaced : List NumberedRow → List (EntryPlace × List ℕ) → Type 0
HasPlaced list kept = (place : EntryPlace)
    → map (λ (p : EntryPlace × List ℕ). p.1) (at_key ghosts.cmp place kept) ≡ groups_at list place
