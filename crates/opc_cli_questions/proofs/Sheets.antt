-- The page of a policy file, when it is written.
use Rattle.std.proofs.Common.{ℕ, List, Option, Result, Ok, Err, inl, inr}
use Rattle.opc_policy_members.specs.declared.row.Row.{Row}
use Rattle.opc_cli_failures.specs.declared.failure.Failure.{Failure}
use Rattle.opc_cli_failures.specs.declared.status.Status.{Status}
use Rattle.opc_cli_questions.specs.PolicyFiles.{AreReadFrom}
use Rattle.opc_cli_questions.specs.Printed.{IsWritten}
use Rattle.opc_cli_questions.specs.Sheets.{IsFileSheet, IsSheetOf, digest_of}

pub of_file : {W : Type 0} (contents : W → Option (List ℕ)) (before written : W) (name : List ℕ) (left : Option (List ℕ)) (bytes : List ℕ)
    (rows : List Row) (end : Result Status Failure) → AreReadFrom left bytes rows
    → IsWritten contents before written (IsSheetOf name (digest_of bytes) rows) end
    → IsWritten contents before written (IsFileSheet name left rows) end
of_file contents before written name left bytes rows (Ok status) read (text, is, printed) = (text, (bytes, read, is), printed)
of_file contents before written name left bytes rows (Err failure) read (inl failed) = inl failed
of_file contents before written name left bytes rows (Err failure) read (inr (is, silent)) = inr ((bytes, read, is), silent)
