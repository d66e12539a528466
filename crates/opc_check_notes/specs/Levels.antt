-- The levels of entries.
use Rattle.std.specs.Prelude.{◌≡◌, List, Option, Some, None, if◌then◌else◌}
use Rattle.std.specs.BTreeMap.{BTreeMap, get}
use Rattle.std.specs.Option.{option_and_then}
use Rattle.opc_check_notes.specs.contracts.effect.RowKeyOrd.TheImpl.{ghosts}
use Rattle.opc_names.specs.declared.level.Level.{Level}
use Rattle.opc_policy_members.specs.declared.row.Row.{Row}
use Rattle.opc_policy_members.specs.declared.row.Row.TheVariants as rows
use Rattle.opc_check_notes.specs.declared.effect.Kept.{Kept}
use Rattle.opc_check_notes.specs.declared.effect.RowKey.{RowKey}
use Rattle.opc_check_notes.specs.declared.numbered.NumberedRow.{NumberedRow}
use Rattle.opc_check_notes.specs.Effect.{key_of, same_key}
use Rattle.opc_check_notes.specs.First.{first_of, last_of}

-- the level of an entry
abbrev pub entry_level : Row → Option Level
entry_level (rows.Permit class pattern id level when) = Some level
entry_level row = None

-- the level of a row, if it is the entry of this key
abbrev pub level_in : RowKey → Row → Option Level → Option Level
level_in key row None = None
level_in key row (Some level) = if same_key (key_of row) key then Some level else None

-- the level of the entry of a key among these rows
abbrev pub level_at : List NumberedRow → RowKey → Option Level
level_at list key = last_of (λ (at : NumberedRow). level_in key at.row (entry_level at.row)) list

-- what is kept of a row, if its key is this one
abbrev pub kept : NumberedRow → Kept
kept at = record { number = at.number; level = entry_level at.row }

abbrev pub kept_at : RowKey → NumberedRow → Option Kept
kept_at key at = if same_key (key_of at.row) key then Some (kept at) else None

-- a map has the number of the row of each key, and its level
abbrev pub HasRows : List NumberedRow → BTreeMap RowKey Kept → Type 0
HasRows list map = (key : RowKey) → get ghosts.cmp map key ≡ first_of (kept_at key) list

abbrev pub HasLevels : List NumberedRow → BTreeMap RowKey Kept → Type 0
HasLevels list map = (key : RowKey)
    → option_and_then (λ (k : Kept). k.level) (get ghosts.cmp map key) ≡ level_at list key
