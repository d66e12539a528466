-- What `import --dry-run` does over a copy of the tables.
use Rattle.std.specs.Prelude.{◌≡◌, ◌≢◌, ◌⊎◌, ◌++◌, ◌∷◌, ℕ, List, [], Option, Some, None, Result, Ok, Err, IsErrAnd, codes}
use Rattle.std.specs.Io.KnownBytes.{Appends}
use Rattle.opc_terms.specs.declared.fault.Fault.TheVariants.{NoMemory, Store}
use Rattle.opc_board.specs.declared.line.Line.{Line}
use Rattle.opc_policy_members.specs.declared.row.Row.{Row}
use Rattle.opc_state.specs.Meaning.{Meaning}
use Rattle.opc_state.specs.State.{State, empty}
use Rattle.opc_machine.specs.declared.request.Answer.{Answer}
use Rattle.opc_machine.specs.declared.request.Answer.TheVariants as answer
use Rattle.opc_machine.specs.Bootstrap.{bootstrapped}
use Rattle.opc_machine.specs.Inputs.{Input, Import as ImportOf}
use Rattle.opc_machine.specs.Machine.{Step}
use Rattle.opc_check.specs.declared.form.Form.TheVariants.{Text}
use Rattle.opc_cli_failures.specs.declared.status.Status.{Status}
use Rattle.opc_cli_failures.specs.declared.status.Status.TheVariants.{Done}
use Rattle.opc_cli_failures.specs.declared.failure.Failure.{Failure}
use Rattle.opc_cli_failures.specs.Statuses.{IsFailure}
use Rattle.opc_cli_questions.specs.Answers.{exported_rows}
use Rattle.opc_cli_questions.specs.Differences.{IsDifferenceText}
use Rattle.opc_cli_questions.specs.PolicyFiles.{AreRead, IsUnread}
use Rattle.opc_cli_questions.specs.Sides.{IsSide, IsSideOn}
use Rattle.opc_cli_questions.specs.declared.sides.PolicySide.{PolicySide}
use Rattle.opc_cli_tasks.specs.declared.work.Import.{Import}
use Rattle.opc_io.specs.declared.watched.Watched.{Watched}
use Rattle.opc_cli_program.specs.Imports.{IsReported}
use Rattle.opc_cli_program.specs.Lines.{IsMomentBy}

-- what is written of a batch after what it changes
abbrev pub kept_text : (batch : List ℕ) → List ℕ
kept_text batch = batch ++ codes " WOULD BE KEPT\n"

-- An answer says that this batch is kept, or it says something else.
abbrev pub IsKeptBatch : List Line → Option (List ℕ) → Type 0
IsKeptBatch lines (Some batch) = (line : Line) × (lines ≡ line ∷ []) × (line.text ≡ batch ++ codes " KEPT")
IsKeptBatch lines None = (line : Line) (batch : List ℕ) → lines ≡ line ∷ [] → line.text ≡ batch ++ codes " KEPT" → ⊥

-- What changed from an old policy to that of a state was written, and this after it. It fails if an allocation or a
-- device does.
abbrev pub IsChangeWritten : {W : Type 0} → (contents : W → Option (List ℕ)) → (before written : W) → (old : PolicySide)
    → State → (last : List ℕ) → Result Status Failure → Type 0
IsChangeWritten contents before written old s last (Ok status) =
    (status ≡ Done) × (new : PolicySide) × IsSide (exported_rows s) new × (text : List ℕ) × IsDifferenceText Text old new text
    × Appends (contents before) (contents written) (text ++ last)
IsChangeWritten contents before written old s last (Err failure) =
    IsFailure failure.fault ⊎ (bootstrapped (exported_rows s) empty ≡ Err failure.fault)

module _ {T : Type 0} (m : Meaning T) (old new : T) {W : Type 0} (contents : W → Option (List ℕ))
    (before written : Watched W) (end : Result Status Failure) where
  -- The answer to a batch, which leads to a state: that it is kept is shown by what it changes, and anything else is
  -- printed.
  abbrev pub IsAnswerShown : (side : PolicySide) → State → Answer → Option (List ℕ) → Type 0
  IsAnswerShown side next a (Some batch) =
      IsChangeWritten contents before.inner written.inner side next (kept_text batch) end
  IsAnswerShown side next a None = IsReported (λ (w : Watched W). contents w.inner) (λ (w : Watched W). w.failed) a
      before written end

  abbrev pub IsAnswerTried : (side : PolicySide) → State → Answer → Type 0
  IsAnswerTried side next (answer.Refused fault rule) =
      IsErrAnd end (λ failure. failure.fault ≡ fault) × (written ≡ before)
  IsAnswerTried side next (answer.Done lines rule) = (batch : Option (List ℕ)) × IsKeptBatch lines batch
      × IsAnswerShown side next (answer.Done lines rule) batch

  -- The request of an import was handled, in one step of the access machine.
  abbrev pub IsBatchTried : (moment : ℕ) → Input → State → (side : PolicySide) → Type 0
  IsBatchTried moment r s side = (answer : Answer) × (next : State) × Step s moment r answer next
      × m.represents new next × IsAnswerTried side next answer

  -- The rows were taken as a first policy, and what they changed was written; or their fault is returned.
  abbrev pub IsFirstTaken : List Row → State → (side : PolicySide) → Result Status Failure → Type 0
  IsFirstTaken rows s side (Ok status) = (next : State) × (bootstrapped rows s ≡ Ok next) × m.represents new next
      × IsChangeWritten contents before.inner written.inner side next [] end
  IsFirstTaken rows s side (Err failure) =
      (failure.fault ≢ NoMemory → failure.fault ≢ Store → bootstrapped rows s ≡ Err failure.fault)
      × IsErrAnd end (λ other. other.fault ≡ failure.fault) × (written ≡ before)

  abbrev pub IsFirstTried : List Row → State → (side : PolicySide) → Type 0
  IsFirstTried rows s side = (taken : Result Status Failure) × IsFirstTaken rows s side taken

  abbrev pub IsTriedWith : (is : PolicySide → Type 0) → Result PolicySide Failure → Type 0
  IsTriedWith is (Ok side) = is side
  IsTriedWith is (Err failure) = IsErrAnd end (λ other. other.fault ≡ failure.fault) × (written ≡ before)

  -- The stored policy was loaded before.
  abbrev pub IsTriedOver : (is : State → PolicySide → Type 0) → Type 0
  IsTriedOver is = m.is_sure new → (s : State) → m.represents old s
      → (side : Result PolicySide Failure) × IsSideOn s side × IsTriedWith (is s) side

  -- The rows are a batch with this number at the console that is named; if none is named, they are a first policy.
  abbrev pub AreTried : (moment batch : ℕ) → Option (List ℕ) → List Row → Type 0
  AreTried moment batch (Some console) rows = IsTriedOver (IsBatchTried moment (ImportOf console batch rows))
  AreTried moment batch None rows = IsTriedOver (IsFirstTried rows)

  -- No rows were read and nothing was written, or those of the policy file that the input had left were tried.
  abbrev pub IsDryRun : (left : Option (List ℕ)) → (moment : ℕ) → Import → Type 0
  IsDryRun left moment import = (IsErrAnd end (λ failure. IsUnread left failure.fault) × (written ≡ before))
      ⊎ ((rows : List Row) × AreRead left rows × AreTried moment import.batch import.console rows)

  -- The clock failed and nothing was written, or the import was tried at the time that it showed.
  abbrev pub IsDryRunNow : (shows : ℕ → Type 0) → (left : Option (List ℕ)) → Import → Type 0
  IsDryRunNow shows left import = (IsErrAnd end (λ failure. IsFailure failure.fault) × (written ≡ before))
      ⊎ ((moment : ℕ) × IsMomentBy shows moment × IsDryRun left moment import)
