-- Rows of tables, as they are shown.
use Rattle.std.specs.Prelude.{◌-◌, ℕ, List, None, map, slice_get, Option}
use Rattle.std.specs.List.{join_with_byte}
use Rattle.opc_policy_members.specs.declared.row.Row.{Row}
use Rattle.opc_policy_members.specs.declared.row.Row.TheVariants as rows
use Rattle.opc_import.specs.Lines.{written_field}
use Rattle.opc_import.specs.Rows.{record_of}

-- the digest of a password is never shown
abbrev pub without_digest : Row → Row
without_digest (rows.User user) = rows.User (record user { digest = None })
without_digest row = row

-- the fields of a row as an export writes them, but for a digest
abbrev pub shown_row : Row → List ℕ
shown_row row = join_with_byte 44 (map written_field (record_of (without_digest row)))

-- the row of a number; they count from 1
abbrev pub row_of : List Row → (number : ℕ) → Option Row
row_of rows number = slice_get rows (number - 1)
