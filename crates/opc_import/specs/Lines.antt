-- The text of a policy file, line by line.
use Rattle.std.specs.Prelude.{◌≡◌, ◌++◌, ℕ, false, List, [], ◌∷◌, map, Option, Some, if◌then◌else◌, ◌==◌}
use Rattle.std.specs.List.{flat_map, join_with_byte, list_any}
use Rattle.std.specs.Io.KnownBytes.{Appends}
use Rattle.std.proofs.Common.{Global, Vec}
use Rattle.csv.specs.Records.{Row as Fields, fields_of, partial_of}
use Rattle.csv.specs.Writing.{default_writer, fields_written, has_written, row_text, text_written, writer_setup}
use Rattle.csv.specs.declared.writer.Writer.{Writer}
use Rattle.opc_policy_members.specs.declared.row.Row.{Row}
use Rattle.opc_import.specs.Columns.{Record, header}
use Rattle.opc_import.specs.Rows.{record_of}

-- a field as it is written: in double quotes if it has a comma
abbrev pub written_field : List ℕ → List ℕ
written_field field = if list_any (λ c. c == 44) field then 34 ∷ (field ++ (34 ∷ [])) else field

-- a line: the fields with commas between them, and a line feed
abbrev pub line_text : Record → List ℕ
line_text fields = join_with_byte 44 (map written_field fields) ++ (10 ∷ [])

-- The text of a policy file: the header, and a line for each row, in order.
abbrev pub policy_text : List Row → List ℕ
policy_text rows = flat_map line_text (header ∷ map record_of rows)

-- the same records as `csv` writes them with its defaults
abbrev pub csv_text : List Row → List ℕ
csv_text rows = flat_map (row_text default_writer) (header ∷ map record_of rows)

-- a field was added to a record that has no other bytes
pub record AddsField (old new : Fields) (field : List ℕ) : Type 0 where
  pub fields : fields_of new ≡ fields_of old ++ (field ∷ [])
  pub whole : partial_of new ≡ []

-- a writer between two lines, with the defaults of `csv`
pub record IsFresh (w : Writer (Vec ℕ Global)) : Type 0 where
  pub setup : writer_setup w ≡ default_writer
  pub fields : fields_written w ≡ 0
  pub wrote : has_written w ≡ false

-- what was written to it
abbrev pub written : Writer (Vec ℕ Global) → Option (List ℕ)
written w = text_written (λ v. Some v.items) w

-- a line of these fields was written
pub record AddsLine (old new : Writer (Vec ℕ Global)) (fields : Record) : Type 0 where
  pub fresh : IsFresh new
  pub bytes : Appends (written old) (written new) (row_text default_writer fields)
