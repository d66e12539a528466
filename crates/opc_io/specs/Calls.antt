-- How a call of a reader or a writer is reported.
use Rattle.std.specs.Prelude.{◌≡◌, ◌⊎◌, ◌<◌, ℕ, List, IsErr, Result, Ok, length}
use Rattle.std.specs.declared.io.Error.{Error}

-- A write of these bytes is reported as its result, or, if it took none of some bytes, as a failure.
abbrev pub IsReportedAs : List ℕ → (answer reported : Result ℕ Error) → Type 0
IsReportedAs bytes answer reported = (reported ≡ answer) ⊎ ((answer ≡ Ok 0) × (0 < length bytes) × IsErr reported)

-- One write was made, and it is reported accordingly.
pub record Writes {W : Type 0} (writes : W → List ℕ → Result ℕ Error → W → Type 0) (before : W) (bytes : List ℕ)
    (reported : Result ℕ Error) (after : W) : Type 0 where
  pub answer : Result ℕ Error
  pub made : writes before bytes answer after
  pub is : IsReportedAs bytes answer reported
