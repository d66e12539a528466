-- The page of a policy, as an answer.
use Rattle.std.specs.Prelude.{◌≡◌, ℕ, List, Option, Result, Ok, Err}
use Rattle.hex.specs.Hex.{encode_lower}
use Rattle.sha2.specs.Sha256.{sha256}
use Rattle.opc_terms.specs.declared.fault.Fault.{Fault}
use Rattle.opc_policy_members.specs.declared.row.Row.{Row}
use Rattle.opc_import.specs.Lines.{policy_text}
use Rattle.opc_state.specs.State.{State, empty}
use Rattle.opc_machine.specs.Bootstrap.{bootstrapped}
use Rattle.opc_answers_sheet.specs.Page.{IsSheet}
use Rattle.opc_cli_failures.specs.declared.status.Status.TheVariants.{Done}
use Rattle.opc_cli_questions.specs.PolicyFiles.{AreReadFrom}
use Rattle.opc_cli_questions.specs.Printed.{PrintedAnswer}

-- the digest of the bytes of a policy
abbrev pub digest_of : List ℕ → List ℕ
digest_of bytes = encode_lower (sha256 bytes)

-- The page of a policy whose rows make this; or a row is refused, whatever the policy says.
abbrev pub IsSheetBy : (name digest : List ℕ) → List Row → Result State Fault → Result PrintedAnswer Fault → Type 0
IsSheetBy name digest rows (Ok s) (Ok answer) = IsSheet name digest rows s.policy s.board answer.0 × (answer.1 ≡ Done)
IsSheetBy name digest rows (Ok s) (Err fault) = ⊥
IsSheetBy name digest rows (Err fault) (Ok answer) = ⊥
IsSheetBy name digest rows (Err fault) (Err other) = fault ≡ other

-- of rows with this digest, as the first policy of new tables
abbrev pub IsSheetOf : (name digest : List ℕ) → List Row → Result PrintedAnswer Fault → Type 0
IsSheetOf name digest rows answer = IsSheetBy name digest rows (bootstrapped rows empty) answer

-- of a policy file: the digest is that of its bytes
abbrev pub IsFileSheet : (name : List ℕ) → (left : Option (List ℕ)) → List Row → Result PrintedAnswer Fault → Type 0
IsFileSheet name left rows answer =
    (bytes : List ℕ) × AreReadFrom left bytes rows × IsSheetOf name (digest_of bytes) rows answer

-- of rows that are in no file: the digest is that of the file that an export of them writes
abbrev pub IsRowsSheet : (name : List ℕ) → List Row → Result PrintedAnswer Fault → Type 0
IsRowsSheet name rows answer = IsSheetOf name (digest_of (policy_text rows)) rows answer
