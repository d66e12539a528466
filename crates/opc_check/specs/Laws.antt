-- How judging and applying each row agrees with reading the file, and with its faults.
use Rattle.std.specs.Prelude.{◌≡◌, ◌++◌, ℕ, List, [], ◌∷◌, Option, Some, None, Result, Ok, Err}
use Rattle.opc_terms.specs.declared.fault.Fault.TheVariants.{Exists, Missing}
use Rattle.opc_terms.specs.declared.fault.Why.TheVariants as why
use Rattle.opc_policy_members.specs.declared.policy.Policy.{Policy}
use Rattle.opc_policy_members.specs.declared.row.Row.{Row}
use Rattle.opc_policy_members.specs.Taken.{after_row}
use Rattle.opc_import.specs.Files.{policy_of}
use Rattle.opc_import.specs.declared.fault.ImportFault.{ImportFault}
use Rattle.opc_import.specs.declared.fault.ImportFault.TheVariants as fault
use Rattle.opc_check.specs.Judged.{Bad, File, bad_rows, file_of, good_rows}
use Rattle.opc_check.specs.Problems.{obstacle_text}

-- all rows if none is bad; otherwise the first that is
abbrev pub unless_bad : List Row → List Bad → Result (List Row) ImportFault
unless_bad rows [] = Ok rows
unless_bad rows (bad ∷ more) = Err (fault.Row bad.number bad.why)

abbrev pub reading : Option File → Result (List Row) ImportFault
reading None = Err (fault.Row 0 why.Header)
reading (Some file) = unless_bad (good_rows file.rows) (bad_rows file.rows)

-- A text is a policy file if and only if it has a header and no bad row. Its rows are then those that were judged, and
-- otherwise its fault is the first bad row.
abbrev pub ReadsIfNoneIsBad : Type 0
ReadsIfNoneIsBad = (text : List ℕ) → policy_of text ≡ reading (file_of text)

abbrev pub EndsWith : List ℕ → List ℕ → Type 0
EndsWith text name = (start : List ℕ) × (text ≡ start ++ name)

-- If a row is refused because a name is there already or is missing, its text ends with that name.
pub record ObstaclesEndWithTheName : Type 0 where
  pub there : (row : Row) (p : Policy) (name : List ℕ) → after_row row p ≡ Err (Exists name)
      → EndsWith (obstacle_text p row) name
  pub missing : (row : Row) (p : Policy) (name : List ℕ) → after_row row p ≡ Err (Missing name)
      → EndsWith (obstacle_text p row) name
