-- A check finds nothing bad in a file exactly if it can be loaded.
use Rattle.std.proofs.Common.{◌≡◌, ◌∙◌, [], ◌∷◌, ℕ, List, sym, refl, ap}
use Rattle.std.specs.Prelude.{Option, Some, None, Ok}
use Rattle.opc_policy_members.specs.declared.policy.Policy.{Policy}
use Rattle.opc_policy_members.specs.declared.row.Row.{Row}
use Rattle.opc_import.specs.Files.{policy_of}
use Rattle.opc_board.specs.declared.board.BoardRows.{BoardRows}
use Rattle.opc_state.specs.State.{State, empty}
use Rattle.opc_machine.specs.Bootstrap.{bootstrapped, consoles_after, with_rows_of}
use Rattle.opc_check.proofs.Agreeing.{reads}
use Rattle.opc_check.proofs.Applying.{policy_so}
use Rattle.opc_check.specs.Checked.{found_in, taken, unless_bad, unless_refused}
use Rattle.opc_check.specs.Judged.{Bad, File, bad_rows, file_of, good_rows}
use Rattle.opc_check.specs.Laws.{reading, unless_bad as read_unless}
use Rattle.opc_check.specs.Refusals.{Refusal, policy_of_kept, refusals_of, unless_refused as made_unless}
use Rattle.opc_check.specs.RowLines.{row_lines}
use Rattle.opc_check.specs.declared.form.Form.{Form}
use Rattle.opc_answers_laws.specs.CheckLaws.{FoundIsTaken, TakenIfNoneIsRefused, TakenIsFound, made_by}

made_so : (board : BoardRows) (p : Policy) (refusals : List Refusal)
    → with_rows_of empty board (made_unless p refusals) ≡ made_unless (record empty { policy = p; board = board }) refusals
made_so board p [] = refl
made_so board p (refusal ∷ more) = refl

pub taken_so : TakenIfNoneIsRefused
taken_so rows = ap (with_rows_of empty (consoles_after rows empty.board)) (policy_so 1 rows empty.policy)
    ∙ made_so (consoles_after rows empty.board) (policy_of_kept rows empty.policy) (refusals_of rows)

-- what the text is and what the rows make, if nothing bad is found
module _ (form : Form) (lines : List ℕ) (rows : List Row) (policy : Policy) where
  rows_taken : (all : List Row) (refusals : List Refusal) → unless_refused form lines all refusals ≡ taken rows policy
      → (all ≡ rows) × ((policy_of_kept all empty.policy ≡ policy) × (refusals ≡ []))
  rows_taken all [] e = (cc, (cc, refl))
  rows_taken all (refusal ∷ more) e = cc

  file_taken : (file : File) (bad : List Bad) → unless_bad form lines file bad ≡ taken rows policy
      → (bad ≡ []) × ((good_rows file.rows ≡ rows) × ((policy_of_kept (good_rows file.rows) empty.policy ≡ policy) × (refusals_of (good_rows file.rows) ≡ [])))
  file_taken file [] e = (refl, rows_taken (good_rows file.rows) (refusals_of (good_rows file.rows)) e)
  file_taken file (bad ∷ more) e = cc

module _ (form : Form) (rows : List Row) (policy : Policy) where
  both : (text : List ℕ) (o : Option File) → policy_of text ≡ reading o → found_in form text o ≡ taken rows policy
      → (policy_of text ≡ Ok rows) × ((s : State) × (bootstrapped rows empty ≡ Ok s) × (s.policy ≡ policy))
  both text None is e = cc
  both text (Some file) is e =
      let h = file_taken form (row_lines text) rows policy file (bad_rows file.rows) e in
      let good : good_rows file.rows ≡ rows = h.1.0 in (
        is ∙ (rw (h.0) (ap (λ (x : List Row). Ok x) good)),
        (
          made_by rows,
          ap (λ (x : List Row). bootstrapped x empty) (sym good) ∙ taken_so (good_rows file.rows) ∙ (rw (h.1.1.1, good) refl),
          rw good at h.1.1.0,
        ),
      )

pub found_is_taken : FoundIsTaken
found_is_taken form text rows policy e = both form rows policy text (file_of text) (reads text) e

-- and the converse
module _ (form : Form) (lines : List ℕ) (rows : List Row) (s : State) where
  no_refusal : (refusals : List Refusal) → Ok s ≡ made_unless (made_by rows) refusals
      → unless_refused form lines rows refusals ≡ taken rows s.policy
  no_refusal [] e = let same : s ≡ made_by rows = cc in rw same refl
  no_refusal (refusal ∷ more) e = cc

  no_bad : (file : File) (bad : List Bad) → Ok rows ≡ read_unless (good_rows file.rows) bad → bootstrapped rows empty ≡ Ok s
      → unless_bad form lines file bad ≡ taken rows s.policy
  no_bad file [] e made =
      let same : good_rows file.rows ≡ rows = cc in
      rw same (no_refusal (refusals_of rows) (sym made ∙ taken_so rows))
  no_bad file (bad ∷ more) e made = cc

module _ (form : Form) (rows : List Row) (s : State) where
  no_header : (text : List ℕ) (o : Option File) → Ok rows ≡ reading o → bootstrapped rows empty ≡ Ok s
      → found_in form text o ≡ taken rows s.policy
  no_header text None e made = cc
  no_header text (Some file) e made = no_bad form (row_lines text) rows s file (bad_rows file.rows) e made

pub taken_is_found : TakenIsFound
taken_is_found form text rows s read made = no_header form rows s text (file_of text) (sym read ∙ reads text) made
