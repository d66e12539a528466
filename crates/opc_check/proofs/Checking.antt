-- What is found in a file, by what was read of it.
use Rattle.std.proofs.Common.{◌≡◌, ◌∙◌, ◌==◌, ◌++◌, [], ◌∷◌, ℕ, List, length, sym, refl, ap, true, false, inl, inr, arith}
use Rattle.std.specs.Prelude.{Bool, Option, Some, None, codes, if◌then◌else◌}
use Rattle.std.proofs.lemmas.Bool.{cases_Bool}
use Rattle.std.proofs.lemmas.Bool.Decides.{nat_tests}
use Rattle.opc_policy_members.specs.declared.policy.Policy.{Policy}
use Rattle.opc_policy_members.specs.declared.row.Row.{Row}
use Rattle.opc_check.specs.Judged.{Bad, File, bad_rows, good_rows}
use Rattle.opc_check.specs.Lines.{problem_lines}
use Rattle.opc_check.specs.Problems.{IsReadingOf, IsRefused, problems_of}
use Rattle.opc_check.specs.declared.form.Form.{Form}
use Rattle.opc_check.specs.declared.reading.Reading.{Reading}
use Rattle.opc_check.specs.declared.refusing.Refused.{Refused}
use Rattle.opc_check.specs.Refusals.{Refusal, refusals_of}
use Rattle.opc_check.specs.Checked.{bad_lines, finding_after, finding_by, found_in, refused_lines, taken, told, unless_bad, unless_refused}
use Rattle.opc_check.specs.Counted.{share_line}
use Rattle.opc_check.specs.RowLines.{row_lines}

pub is_zero : (n : ℕ) → n ≡ 0 → (n == 0) ≡ true
is_zero n h = grind (arith, nat_tests, h)

pub not_zero : (n : ℕ) → (n ≡ 0 → ⊥) → (n == 0) ≡ false
not_zero n h = grind (arith, nat_tests, h)

zero_is : (n : ℕ) → (n == 0) ≡ true → n ≡ 0
zero_is n h = grind (arith, nat_tests, h)

some_is : (n : ℕ) → (n == 0) ≡ false → n ≡ 0 → ⊥
some_is n h none = grind (arith, nat_tests, h, none)

-- by what was read of the file
by_count : (form : Form) (lines : List ℕ) (file : File) (bad : List Bad)
    → (if length bad == 0 then unless_refused form lines (good_rows file.rows) (refusals_of (good_rows file.rows))
    else told (bad_lines form lines file))
    ≡ unless_bad form lines file bad
by_count form lines file [] = refl
by_count form lines file (bad ∷ more) =
    ap
    (λ (none : Bool). if none then unless_refused form lines (good_rows file.rows) (refusals_of (good_rows file.rows))
    else told (bad_lines form lines file))
    (not_zero (length (bad ∷ more)) (λ e. absurd (omega (arith, e))))

pub found_so : (form : Form) (text : List ℕ) (o : Option File) (found : Option Reading) → IsReadingOf o found
    → finding_by form text found ≡ found_in form text o
found_so form text None None h = refl
found_so form text None (Some r) h = absurd h
found_so form text (Some file) None h = absurd h
found_so form text (Some file) (Some r) h = rw (h.rows, h.bad, h.judged, h.problems) (by_count form (row_lines text) file (bad_rows file.rows))

-- by what was refused of the rows
no_refusals : (refusals : List Refusal) → length refusals ≡ 0 → refusals ≡ []
no_refusals [] e = refl
no_refusals (refusal ∷ more) e = absurd (omega (arith, e))

some_refusals : (form : Form) (lines : List ℕ) (rows : List Row) (refusals : List Refusal) → (length refusals ≡ 0 → ⊥)
    → unless_refused form lines rows refusals ≡ told (refused_lines form lines rows)
some_refusals form lines rows [] some = absurd (some refl)
some_refusals form lines rows (refusal ∷ more) some = refl

module _ (form : Form) (lines : List ℕ) (rows : List Row) (r : Refused) (h : IsRefused rows r) where
  pub none_refused : r.count ≡ 0 → unless_refused form lines rows (refusals_of rows) ≡ taken rows r.policy
  none_refused none =
      ap (unless_refused form lines rows) (no_refusals (refusals_of rows) (sym h.count ∙ none))
      ∙ ap (λ (p : Policy). taken rows p) (sym h.policy)

  pub some_refused : (r.count ≡ 0 → ⊥) → unless_refused form lines rows (refusals_of rows)
      ≡ told (problem_lines form lines (problems_of r.problems.items) ++ share_line form (codes "refused") r.count (length rows))
  some_refused some =
      some_refusals form lines rows (refusals_of rows) (λ e. some (h.count ∙ e)) ∙ rw (h.problems, h.count) refl

pub after_so : (form : Form) (lines : List ℕ) (rows : List Row) (r : Refused) → IsRefused rows r
    → finding_after form lines rows r ≡ unless_refused form lines rows (refusals_of rows)
after_so form lines rows r h = elim (cases_Bool (r.count == 0)) [
  | inl none ↦ rw none (sym (none_refused form lines rows r h (zero_is r.count none)))
  | inr some ↦ rw some (sym (some_refused form lines rows r h (some_is r.count some)))
]
