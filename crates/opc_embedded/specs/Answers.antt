-- The answers to what words ask for, by the texts of policies.
use Rattle.std.specs.Prelude.{◌≡◌, ◌⊎◌, ℕ, false, List, Option, Some, None, Result, Ok, Err}
use Rattle.opc_io.specs.declared.watched.Watched.{Watched}
use Rattle.opc_terms.specs.declared.fault.Fault.TheVariants.{NoMemory}
use Rattle.opc_check.specs.declared.form.Form.{Form}
use Rattle.opc_cli_failures.specs.declared.failure.Failure.{Failure}
use Rattle.opc_cli_failures.specs.declared.status.Status.{Status}
use Rattle.opc_cli_failures.specs.declared.status.Status.TheVariants.{BadInput, Failed}
use Rattle.opc_cli_failures.specs.Printing.{IsReported}
use Rattle.opc_cli_questions.specs.Compared.{IsComparedWith, IsSideRefused}
use Rattle.opc_cli_questions.specs.FileAnswers.{IsAnsweredByFile}
use Rattle.opc_cli_questions.specs.Sides.{IsSideRead}
use Rattle.opc_cli_questions.specs.declared.sides.PolicySide.{PolicySide}
use Rattle.opc_cli_tasks.specs.declared.question.PolicyQuestion.{PolicyQuestion}
use Rattle.opc_cli_tasks.specs.declared.source.NamedPolicy.{NamedPolicy}
use Rattle.opc_cli_tasks.specs.declared.source.NamedPolicy.TheVariants.{File}
use Rattle.opc_cli_tasks.specs.declared.source.PolicySource.{PolicySource}
use Rattle.opc_cli_tasks.specs.declared.source.PolicySource.TheVariants.{PolicyFile}
use Rattle.opc_cli_tasks.specs.declared.task.Task.{Task}
use Rattle.opc_cli_tasks.specs.declared.task.Task.TheVariants as task
use Rattle.opc_cli_words.specs.Reading.{Ask, AskForNone}
use Rattle.opc_embedded.specs.Unanswered.{IsLinePrinted, line_of}
use Rattle.opc_embedded.specs.declared.unanswered.Unanswered.{Unanswered}
use Rattle.opc_embedded.specs.declared.unanswered.Unanswered.TheVariants.{NamesFile, OtherTask}

-- That there was no memory was reported, unless a write failed.
abbrev pub IsMemoryReported : {E : Type 0} → (shown : E → Option (List ℕ)) → (quiet reported : Watched E) → Status
    → Type 0
IsMemoryReported shown quiet reported status = (status ≡ Failed)
    × (reported.failed ≡ false → IsReported NoMemory (shown quiet.inner) (shown reported.inner))

module _ {W E : Type 0} (contents : W → Option (List ℕ)) (shown : E → Option (List ℕ)) (before written : Watched W)
    (quiet reported : Watched E) (status : Status) where
  -- The new policy was read from its text, after the old one, and compared with it.
  abbrev pub IsComparedWithText : Form → (text : List ℕ) → (old : PolicySide) → Type 0
  IsComparedWithText form text old = (new : Result PolicySide Failure) × IsSideRead (Some text) new
      × IsComparedWith contents shown before written quiet reported status form old new

  abbrev pub AreTextsComparedBy : Form → (text : List ℕ) → (old : Result PolicySide Failure) → Type 0
  AreTextsComparedBy form text (Ok old) = IsComparedWithText form text old
  AreTextsComparedBy form text (Err failure) =
      IsSideRefused contents shown before written quiet reported status failure.fault

  -- What changes from the policy of one text to that of the other was printed.
  abbrev pub AreTextsCompared : Form → (policy new : List ℕ) → Type 0
  AreTextsCompared form policy new = (old : Result PolicySide Failure) × IsSideRead (Some policy) old
      × AreTextsComparedBy form new old

  -- A question is not answered: the line that says why was printed, and nothing else.
  abbrev pub IsNotAnswered : Unanswered → Type 0
  IsNotAnswered why = (status ≡ BadInput) × (written ≡ before) × IsLinePrinted shown quiet reported (line_of why)

module _ {W E : Type 0} (contents : W → Option (List ℕ)) (shown : E → Option (List ℕ)) (policy new : List ℕ)
    (before written : Watched W) (quiet reported : Watched E) (status : Status) where
  -- A question about a policy is answered as by the program that has the text on its input, if it names no file.
  abbrev pub IsAnsweredHere : PolicySource → PolicyQuestion → Type 0
  IsAnsweredHere (PolicyFile None) asked =
      IsAnsweredByFile contents shown before written quiet reported status asked (Some policy)
  IsAnsweredHere source asked = IsNotAnswered contents shown before written quiet reported status NamesFile

  -- `diff` is answered as by the program whose two files are the texts, whatever their paths.
  abbrev pub IsDiffAnswered : (one other : NamedPolicy) → Form → Type 0
  IsDiffAnswered (File old_path) (File new_path) form =
      AreTextsCompared contents shown before written quiet reported status form policy new
  IsDiffAnswered one other form = IsNotAnswered contents shown before written quiet reported status NamesFile

  abbrev pub IsTaskAnswered : Task → Type 0
  IsTaskAnswered (task.Ask source asked) = IsAnsweredHere source asked
  IsTaskAnswered (task.Diff compared) = IsDiffAnswered compared.old compared.new compared.form
  IsTaskAnswered other = IsNotAnswered contents shown before written quiet reported status OtherTask

  -- The words ask for a task, which is answered; or for nothing that is done, and that is reported.
  abbrev pub AreAnswered : (words : List (List ℕ)) → Type 0
  AreAnswered words = ((task : Task) × Ask words task × IsTaskAnswered task)
      ⊎ AskForNone words (λ (w : Watched W). contents w.inner) shown before written quiet reported status
