-- How much of a policy file is read.
use Rattle.std.specs.Prelude.{◌≡◌, ℕ, List}
use Rattle.csv.specs.Reading.{default_config, records}
use Rattle.opc_import.specs.Files.{rows_of}

-- A part of a text without a byte order mark has the rows of the whole text, or its first fault.
abbrev pub AreReadAlike : List ℕ → List ℕ → Type 0
AreReadAlike part whole = rows_of (records default_config part) ≡ rows_of (records default_config whole)
