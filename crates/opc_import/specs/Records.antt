-- The records that a reader with the crate's defaults has left.
use Rattle.std.specs.Prelude.{◌≡◌, ◌⊎◌, ◌+◌, ℕ, Bool, true, false, List, [], ◌∷◌, length, Option, Some, None}
use Rattle.std.proofs.Common.{Bor}
use Rattle.csv.specs.Reading.{
  Ready,
  default_config,
  has_failed,
  is_flexible,
  reader_config,
  reader_state,
  reader_trim,
  records_from,
  source_of,
}
use Rattle.csv.specs.declared.parser.State.{State}
use Rattle.csv.specs.declared.reader.Reader.{Reader}
use Rattle.csv.specs.declared.reader.Trim.TheVariants as trim
use Rattle.opc_import.specs.Columns.{Record}

-- the records of some bytes from a state, if the bytes are known
abbrev pub records_of_source : State → Option (List ℕ) → List Record
records_of_source s None = []
records_of_source s (Some xs) = records_from default_config (length xs + 1) s xs

-- what a reader has left
abbrev pub records_left : Reader (Bor (List ℕ)) → List Record
records_left r = records_of_source (reader_state r) (source_of (λ b. Some b.now) r)

-- a reader that gives each record as it stands, of any length
pub record IsOpenReader (r : Reader (Bor (List ℕ))) : Type 0 where
  pub trim : reader_trim r ≡ trim.None
  pub ready : Ready r
  pub config : reader_config r ≡ default_config
  pub flexible : is_flexible r ≡ true

-- the same, or a reader that has failed
abbrev pub IsPlainReader : Reader (Bor (List ℕ)) → Type 0
IsPlainReader r = (has_failed r ≡ true) ⊎ IsOpenReader r

-- the first record is taken from those that are left, or none is left
abbrev pub TakesFirst : List Record → Bool → Record → List Record → Type 0
TakesFirst old true fields new = old ≡ fields ∷ new
TakesFirst old false fields new = old ≡ []
