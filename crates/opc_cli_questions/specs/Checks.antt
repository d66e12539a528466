-- The answer of `check` about the bytes of a policy file.
use Rattle.std.specs.Prelude.{◌≡◌, ◌≤◌, ◌<◌, ◌⊎◌, ◌==◌, ◌++◌, ℕ, Bool, false, List, [], ◌∷◌, Option, Some, None, Result, Ok, Err, IfErr, IsErrAnd, IsUtf8, IfSome, take, ◌+◌, string_bytes, codes, decimal, if◌then◌else◌, length}
use Rattle.std.specs.Io.KnownBytes.{Appends}
use Rattle.std.specs.List.{flat_map}
use Rattle.serde_json.specs.Data.{Data, member, no_members, number, object, unsigned}
use Rattle.serde_json.specs.Written.{compact_text}
use Rattle.opc_policy_members.specs.declared.row.Row.{Row}
use Rattle.opc_check.specs.Checked.{Finding, finding_of, taken, told}
use Rattle.opc_check.specs.declared.checked.Checked.{Checked}
use Rattle.opc_check.specs.declared.checked.Checked.TheVariants as checked
use Rattle.opc_check.specs.Counted.{header_line, rows_word}
use Rattle.opc_check.specs.RowLines.{row_lines}
use Rattle.opc_check_notes.specs.declared.note.Note.{Note}
use Rattle.opc_check.specs.declared.form.Form.{Form}
use Rattle.opc_check.specs.declared.form.Form.TheVariants as form
use Rattle.opc_cli_failures.specs.declared.failure.Failure.{Failure}
use Rattle.opc_cli_failures.specs.declared.status.Status.{Status}
use Rattle.opc_cli_failures.specs.declared.status.Status.TheVariants.{Done, Refused, BadInput}
use Rattle.opc_cli_failures.specs.Printing.{IsReported}
use Rattle.opc_cli_failures.specs.Statuses.{IsFailure, status_of_end}
use Rattle.opc_check.specs.Unread.{not_utf8, policy_limit, too_long}
use Rattle.opc_cli_questions.specs.PolicyFiles.{AreLeft}
use Rattle.opc_cli_questions.specs.Printed.{PrintedAnswer, answered}
use Rattle.opc_cli_questions.specs.Noted.{kept_of, note_line}
use Rattle.opc_cli_questions.specs.StoredNotes.{stored_line}

abbrev pub notes_word : ℕ → List ℕ
notes_word n = if n == 1 then codes " note" else codes " notes"

-- the last line if nothing is bad
abbrev pub good_value : (rows notes : ℕ) → Data
good_value rows notes =
    object (member (codes "notes") (number (unsigned notes))
    (member (codes "rows") (number (unsigned rows)) no_members))

abbrev pub good_line : Form → (rows notes : ℕ) → List ℕ
good_line form.Text rows notes =
    decimal rows ++ (rows_word rows ++ (codes ", " ++ (decimal notes ++ (notes_word notes ++ 10 ∷ []))))
good_line form.Json rows notes = compact_text (good_value rows notes) ++ 10 ∷ []

-- a note is no refusal, but has its status
abbrev pub status_with : (notes : ℕ) → Status
status_with notes = if notes == 0 then Done else Refused

-- a line for each note: rows of a text have lines, and those of tables are shown themselves
abbrev pub noted_lines : Form → (text : Option (List ℕ)) → List Row → List Note → List ℕ
noted_lines form (Some text) rows notes = flat_map (note_line form (row_lines text)) notes
noted_lines form None rows notes = flat_map (stored_line form rows) notes

abbrev pub noted_by : Form → (text : Option (List ℕ)) → List Row → List Note → PrintedAnswer
noted_by form text rows notes =
    answered (noted_lines form text rows notes ++ good_line form (length rows) (length notes))
    (status_with (length notes))

-- about rows that can be loaded, those of a text or of tables: their notes, without those of these codes
abbrev pub noted : Form → (allowed text : Option (List ℕ)) → List Row → PrintedAnswer
noted form allowed text rows = noted_by form text rows (kept_of allowed rows)

-- about what was found in a text
abbrev pub answer_of : Form → (allowed : Option (List ℕ)) → List ℕ → Finding → PrintedAnswer
answer_of form allowed text (told lines) = answered lines BadInput
answer_of form allowed text (taken rows policy) = noted form allowed (Some text) rows

-- the same by what was found
abbrev pub AnswersFound : Form → (allowed : Option (List ℕ)) → List ℕ → Checked → PrintedAnswer → Type 0
AnswersFound form allowed text (checked.Bad lines) answer = answer ≡ answered (string_bytes lines) BadInput
AnswersFound form allowed text (checked.Taken rows policy) answer = answer ≡ noted form allowed (Some text) rows.items

-- what is wrong with all of a file
abbrev pub whole : Form → List ℕ → PrintedAnswer
whole form text = answered (header_line form text) BadInput

-- The first bytes that a reader had left, up to one more than a policy file may have.
abbrev pub AreFirst : Option (List ℕ) → List ℕ → Type 0
AreFirst left bytes = IfSome left (λ all. bytes ≡ take (policy_limit + 1) all)

-- About bytes that are too many, that are not a text, or that are one.
abbrev pub IsAnswer : Form → (allowed : Option (List ℕ)) → List ℕ → PrintedAnswer → Type 0
IsAnswer form allowed bytes answer =
    ((policy_limit < length bytes) × (answer ≡ whole form too_long))
    ⊎ ((length bytes ≤ policy_limit) × (IsUtf8 bytes → ⊥) × (answer ≡ whole form (not_utf8 bytes)))
    ⊎ ((length bytes ≤ policy_limit) × IsUtf8 bytes × (answer ≡ answer_of form allowed bytes (finding_of form bytes)))

module _ {W : Type 0} (contents : W → Option (List ℕ)) (before written : W) where
  -- The text was written, and the status is its; or there was no memory, or the output failed.
  abbrev pub IsWritten : (PrintedAnswer → Type 0) → Result Status Failure → Type 0
  IsWritten is (Ok status) =
      (text : List ℕ) × is (answered text status) × Appends (contents before) (contents written) text
  IsWritten is (Err failure) = IsFailure failure.fault

  -- The policy file could not be read, and nothing was written; or the answer about its bytes was.
  abbrev pub IsAnswered : Form → (allowed left : Option (List ℕ)) → Result Status Failure → Type 0
  IsAnswered form allowed left end =
      (IsErrAnd end (λ failure. IsFailure failure.fault) × (written ≡ before))
      ⊎ ((bytes : List ℕ) × AreLeft left bytes × IsWritten (IsAnswer form allowed bytes) end)

-- The answer was given, and the status returned; a fault is printed, unless a write of it failed.
pub record IsReportedCheck {W K : Type 0} (contents : W → Option (List ℕ)) (held : K → Option (List ℕ))
    (has_failed : K → Bool) (before written : W) (quiet reported : K) (form : Form)
    (allowed left : Option (List ℕ)) (status : Status) : Type 0 where
  pub end : Result Status Failure
  pub answered : IsAnswered contents before written form allowed left end
  pub status_is : status ≡ status_of_end end
  pub printed : IfErr end (λ failure. has_failed reported ≡ false
      → IsReported failure.fault (held quiet) (held reported))
