-- A policy file without what its records have past ten fields.
use Rattle.std.specs.Prelude.{ℕ, Bool, true, List, [], ◌∷◌, ◌+◌, Option, if◌then◌else◌, nat_lt}
use Rattle.csv.specs.Machine.{step}
use Rattle.csv.specs.Reading.{default_config}
use Rattle.csv.specs.declared.parser.State.{State}
use Rattle.opc_import.specs.CsvBytes.{end_of}
use Rattle.opc_import.specs.declared.csv_bytes.ByteEnd.{ByteEnd}
use Rattle.opc_import.specs.declared.csv_bytes.ByteEnd.TheVariants as end
use Rattle.opc_check.specs.declared.reading.Reading.{Reading}
use Rattle.opc_check.specs.Judged.{file_of}
use Rattle.opc_check.specs.Problems.{IsReadingOf}

-- a byte is kept if it ends its record, or stands in one of the first ten fields
abbrev pub is_kept : ByteEnd → ℕ → Bool
is_kept end.Record ended = true
is_kept other ended = nat_lt ended 10

-- how many fields of a record have ended after a byte, ten at most
abbrev pub ended_after : ByteEnd → ℕ → ℕ
ended_after end.Record ended = 0
ended_after end.Field ended = if nat_lt ended 10 then ended + 1 else ended
ended_after end.Nothing ended = ended

-- what is kept of a text, from a state in which this many fields have ended
unfoldable pub kept : State → ℕ → List ℕ → List ℕ
kept s ended [] = []
kept s ended (byte ∷ rest) =
    if is_kept (end_of (step default_config s byte).1) ended
    then byte ∷ kept (step default_config s byte).0 (ended_after (end_of (step default_config s byte).1) ended) rest
    else kept (step default_config s byte).0 (ended_after (end_of (step default_config s byte).1) ended) rest

-- What is read of one text is what is read of the other.
abbrev pub AreToldAlike : (part whole : List ℕ) → Type 0
AreToldAlike part whole =
    (r : Option Reading) → IsReadingOf (file_of part) r → IsReadingOf (file_of whole) r
