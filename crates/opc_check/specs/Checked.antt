-- What a check finds in a text as a policy file, up to its notes.
use Rattle.std.specs.Prelude.{
  ◌≡◌,
  ◌++◌,
  ◌==◌,
  ℕ,
  List,
  [],
  ◌∷◌,
  Option,
  Some,
  None,
  codes,
  if◌then◌else◌,
  length,
  map,
  string_bytes,
  take,
}
use Rattle.opc_policy_members.specs.declared.policy.Policy.{Policy}
use Rattle.opc_policy_members.specs.declared.row.Row.{Row}
use Rattle.opc_policy_members.specs.Taken.{no_policy}
use Rattle.opc_check.specs.Judged.{Bad, File, bad_rows, file_of, good_rows}
use Rattle.opc_check.specs.Lines.{problem_lines}
use Rattle.opc_check.specs.Problems.{bad_problem, most_told, problems_of, refused_problem}
use Rattle.opc_check.specs.declared.form.Form.{Form}
use Rattle.opc_check.specs.declared.reading.Reading.{Reading}
use Rattle.opc_check.specs.declared.refusing.Refused.{Refused}
use Rattle.opc_check.specs.Refusals.{Refusal, policy_of_kept, refusals_of}
use Rattle.opc_check.specs.RowLines.{row_lines}
use Rattle.opc_check.specs.Counted.{header_line, share_line}
use Rattle.opc_check.specs.Unread.{header_text}
use Rattle.opc_check.specs.declared.checked.Checked.{Checked}
use Rattle.opc_check.specs.declared.checked.Checked.TheVariants as checked

-- what is found: lines about what is bad, or rows that are taken one after another, and the policy that they make
pub data Finding : Type 0 where
  told : List ℕ → Finding
  taken : List Row → Policy → Finding

-- the first bad rows, which begin on these lines, and how many are bad
abbrev pub bad_lines : Form → (lines : List ℕ) → File → List ℕ
bad_lines form lines file =
    problem_lines form lines (map (bad_problem file.width) (take most_told (bad_rows file.rows)))
    ++ share_line form (codes "bad") (length (bad_rows file.rows)) (length file.rows)

-- the first refused rows, and how many are refused
abbrev pub refused_lines : Form → (lines : List ℕ) → List Row → List ℕ
refused_lines form lines rows = problem_lines form lines (map (refused_problem [] rows) (take most_told (refusals_of rows)))
    ++ share_line form (codes "refused") (length (refusals_of rows)) (length rows)

abbrev pub unless_refused : Form → (lines : List ℕ) → List Row → List Refusal → Finding
unless_refused form lines rows [] = taken rows (policy_of_kept rows no_policy)
unless_refused form lines rows (refusal ∷ more) = told (refused_lines form lines rows)

abbrev pub unless_bad : Form → (lines : List ℕ) → File → List Bad → Finding
unless_bad form lines file [] = unless_refused form lines (good_rows file.rows) (refusals_of (good_rows file.rows))
unless_bad form lines file (bad ∷ more) = told (bad_lines form lines file)

abbrev pub found_in : Form → List ℕ → Option File → Finding
found_in form text None = told (header_line form (header_text text))
found_in form text (Some file) = unless_bad form (row_lines text) file (bad_rows file.rows)

-- Of a text: what stands in the place of the header; else its bad rows; if there are none, those that are refused; if
-- there are none of these, its rows and their policy.
abbrev pub finding_of : Form → List ℕ → Finding
finding_of form text = found_in form text (file_of text)

-- The same by what was read of the file, and by what was refused of its rows.
abbrev pub finding_read : Form → (lines : List ℕ) → Reading → Finding
finding_read form lines r = if r.bad == 0 then unless_refused form lines r.rows.items (refusals_of r.rows.items)
    else told (problem_lines form lines (problems_of r.problems.items)
    ++ share_line form (codes "bad") r.bad r.judged)

abbrev pub finding_by : Form → List ℕ → Option Reading → Finding
finding_by form text None = told (header_line form (header_text text))
finding_by form text (Some r) = finding_read form (row_lines text) r

abbrev pub finding_after : Form → (lines : List ℕ) → List Row → Refused → Finding
finding_after form lines rows r = if r.count == 0 then taken rows r.policy
    else told (problem_lines form lines (problems_of r.problems.items)
    ++ share_line form (codes "refused") r.count (length rows))

-- what was found
abbrev pub IsFound : Finding → Checked → Type 0
IsFound (told text) (checked.Bad made) = string_bytes made ≡ text
IsFound (taken rows policy) (checked.Taken given its) = (given.items ≡ rows) × (its ≡ policy)
IsFound finding other = ⊥
