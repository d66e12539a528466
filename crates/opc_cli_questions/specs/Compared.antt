-- What is printed if two policies are compared.
use Rattle.std.specs.Prelude.{◌≡◌, ℕ, List, Option, Result, Ok, Err}
use Rattle.opc_terms.specs.declared.fault.Fault.{Fault}
use Rattle.opc_io.specs.declared.watched.Watched.{Watched}
use Rattle.opc_check.specs.declared.form.Form.{Form}
use Rattle.opc_cli_failures.specs.declared.failure.Failure.{Failure}
use Rattle.opc_cli_failures.specs.declared.status.Status.{Status}
use Rattle.opc_cli_failures.specs.declared.status.Status.TheVariants.{BadInput, Refused}
use Rattle.opc_cli_failures.specs.Statuses.{status_of, status_of_end}
use Rattle.opc_cli_questions.specs.Differences.{IsDifference}
use Rattle.opc_cli_questions.specs.Printed.{IsWritten}
use Rattle.opc_cli_questions.specs.Reported.{IsEndReported, IsFaultReported}
use Rattle.opc_cli_questions.specs.declared.sides.PolicySide.{PolicySide}

-- a row that is refused is bad input, since the status of a refusal says that rows differ
abbrev pub refused_status : Status → Status
refused_status Refused = BadInput
refused_status status = status

module _ {W E : Type 0} (contents : W → Option (List ℕ)) (shown : E → Option (List ℕ)) (before written : Watched W)
    (quiet reported : Watched E) (status : Status) where
  -- A policy was not read, or a row of it is refused: that was reported, and nothing was written.
  pub record IsSideRefused (fault : Fault) : Type 0 where
    pub silent : written ≡ before
    pub status_is : status ≡ refused_status (status_of fault)
    pub fault_reported : IsFaultReported shown quiet reported fault

  -- What changes from one to the other was written, and the status says whether rows differ.
  pub record IsDifferencePrinted (form : Form) (old new : PolicySide) : Type 0 where
    pub end : Result Status Failure
    pub printed : IsWritten contents before.inner written.inner (IsDifference form old new) end
    pub status_is : status ≡ status_of_end end
    pub end_reported : IsEndReported shown quiet reported end

  -- The new policy was compared with the old one, if it was read.
  abbrev pub IsComparedWith : Form → (old : PolicySide) → (new : Result PolicySide Failure) → Type 0
  IsComparedWith form old (Ok new) = IsDifferencePrinted form old new
  IsComparedWith form old (Err failure) = IsSideRefused failure.fault
