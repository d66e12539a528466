-- The place of an entry in an access list.
use Rattle.std.specs.Prelude.{◌≡◌, ℕ, ◌<◌, ◌≤◌, List, length, Result, Ok, Err}
use Rattle.std.specs.List.{slice_index_or}
use Rattle.std.specs.declared.cmp.Ordering.TheVariants.{Less, Equal, Greater}
use Rattle.opc_policy_members.specs.Access.{entry_cmp}
use Rattle.opc_policy_members.specs.declared.entry.Entry.{Entry}

-- an entry comes after all entries before a place
abbrev pub IsAfter : Entry → List Entry → ℕ → Type 0
IsAfter entry entries place = (k : ℕ) (d : Entry) → k < place → entry_cmp entry (slice_index_or entries k d) ≡ Greater

-- the place of the entry for the same id and console, or the place where it would stand
abbrev pub IsPlace : Entry → List Entry → Result ℕ ℕ → Type 0
IsPlace entry entries (Ok place) =
    (place < length entries) × IsAfter entry entries place
    × ((d : Entry) → entry_cmp entry (slice_index_or entries place d) ≡ Equal)
IsPlace entry entries (Err place) =
    (place ≤ length entries) × IsAfter entry entries place
    × ((d : Entry) → place < length entries → entry_cmp entry (slice_index_or entries place d) ≡ Less)
