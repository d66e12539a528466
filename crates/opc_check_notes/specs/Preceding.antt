-- The patterns of OPERCMDS that come before one.
use Rattle.std.specs.Prelude.{◌≡◌, ℕ, Bool, true, List, Option, Some, None, filter_map, if◌then◌else◌, option_map}
use Rattle.std.specs.List.{AllByRecursion, list_any}
use Rattle.std.specs.Option.{option_and_then}
use Rattle.std.specs.Ordering.{is_lt}
use Rattle.opc_names.specs.declared.class.Class.TheVariants.{Opercmds}
use Rattle.opc_names.specs.Names.{IsPattern}
use Rattle.opc_names.specs.Order.{sort_key}
use Rattle.opc_names.specs.Patterns.{covers_text}
use Rattle.opc_policy_members.specs.declared.row.Row.{Row}
use Rattle.opc_policy_members.specs.declared.row.Row.TheVariants as rows
use Rattle.opc_policy_members.specs.Profiles.{pattern_cmp}
use Rattle.opc_check_notes.specs.declared.numbered.NumberedRow.{NumberedRow}

-- the pattern of a profile of OPERCMDS
abbrev pub opercmds_pattern : Row → Option (List ℕ)
opercmds_pattern (rows.Profile Opercmds pattern uacc owner warns) = Some pattern
opercmds_pattern row = None

-- if it comes before this one in the order of the search
abbrev pub earlier : (pattern : List ℕ) → Row → Option (List ℕ)
earlier pattern row = option_and_then
    (λ (other : List ℕ). if is_lt (pattern_cmp other pattern) then Some other else None) (opercmds_pattern row)

abbrev pub all_before : List NumberedRow → (pattern : List ℕ) → List (List ℕ)
all_before list pattern = filter_map (λ (at : NumberedRow). earlier pattern at.row) list

-- the patterns of OPERCMDS, each after its sort key
abbrev pub keyed : Row → Option (List ℕ × List ℕ)
keyed row = option_map (λ (pattern : List ℕ). (sort_key pattern, pattern)) (opercmds_pattern row)

abbrev pub all_keyed : List NumberedRow → List (List ℕ × List ℕ)
all_keyed list = filter_map (λ (at : NumberedRow). keyed at.row) list

abbrev pub AreValid : List (List ℕ × List ℕ) → Type 0
AreValid pairs = AllByRecursion (λ (p : List ℕ × List ℕ). IsPattern p.1) pairs

-- what is kept in the order of the sort keys is these
pub record HasPatterns (list : List NumberedRow) (kept : List (List ℕ × List ℕ)) : Type 0 where
  pub same : (test : List ℕ × List ℕ → Bool) → list_any test kept ≡ list_any test (all_keyed list)
  pub valid : AreValid (all_keyed list)

-- of those before a pattern, as many as cover what it covers
abbrev pub ArePreceding : List NumberedRow → (pattern : List ℕ) → List (List ℕ) → Type 0
ArePreceding list pattern found = (resource : List ℕ) → covers_text pattern resource ≡ true
    → list_any (λ (other : List ℕ). covers_text other resource) found
    ≡ list_any (λ (other : List ℕ). covers_text other resource) (all_before list pattern)
