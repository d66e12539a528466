-- What is read of a database file.
use Rattle.std.specs.Prelude.{◌≡◌, ℕ, List, Option, Result, Ok}
use Rattle.sqlite_disk.specs.declared.Disk as disk
use Rattle.sqlite_store.specs.declared.store.FileStore.{FileStore}
use Rattle.sqlite_trees.specs.Tree.{Trees}
use Rattle.sqlite.specs.Held.{Held}
use Rattle.sqlite.specs.Recovery.{Image}
use Rattle.sqlite.specs.Files.{over_files, HoldsDatabase}
use Rattle.opc_state.specs.State.{State}
use Rattle.opc_store_schema.specs.Represented.{AreTablesOf}
use Rattle.opc_store.specs.Reading.{IsFoundAt}
use Rattle.opc_store.specs.StoreTables.{IsSure, RepresentsIfOpen, store_meaning}
use Rattle.opc_account.specs.declared.query.Query.{Query}
use Rattle.opc_account.specs.Printed.{IsAccount, IsAccountPrinted}
use Rattle.opc_cli_failures.specs.declared.status.Status.{Status}
use Rattle.opc_cli_failures.specs.declared.failure.Failure.{Failure}
use Rattle.opc_cli_questions.specs.Printed.{IsWritten}
use Rattle.opc_http_serve.specs.Policies.{export_of}
use Rattle.opc_cli_questions.specs.Answers.{IsAnsweredOver, IsRowsAnswer, exported_rows, on_board}
use Rattle.opc_cli_tasks.specs.declared.question.PolicyQuestion.{PolicyQuestion}
use Rattle.opc_import.specs.Lines.{policy_text}
use Rattle.opc_cli.specs.declared.reading.DatabaseQuestion.{DatabaseQuestion as Borrowed}
use Rattle.opc_cli.specs.declared.reading.DatabaseQuestion.TheVariants as borrowed

-- what is read: the rows of the account that a query shows, or the answer to a question about the policy
pub data DatabaseQuestion : Type 0 where
  AccountOf : Query → DatabaseQuestion
  AnswerTo : PolicyQuestion → DatabaseQuestion

abbrev pub reading_of : Borrowed → DatabaseQuestion
reading_of (borrowed.Account query) = AccountOf query.now
reading_of (borrowed.Answer question) = AnswerTo question.now

module _ {D : Type 0} {g : disk.Ghosts D} where
  -- What was requested was read from tables, which were not changed, and written.
  abbrev pub IsRead : {W : Type 0} (contents : W → Option (List ℕ)) (opened last : Held (FileStore D g))
      → (before written : W) → Result Status Failure → DatabaseQuestion → Type 0
  IsRead contents opened last before written end (AccountOf query) =
      IsAccountPrinted (store_meaning over_files) contents opened last query before written end
  IsRead contents opened last before written end (AnswerTo question) =
      IsAnsweredOver (store_meaning over_files) contents opened last before written end question

module _ {D : Type 0} (g : disk.Ghosts D) where
  -- What was asked for was read of the tables that were opened, and written. What was opened is let go.
  pub record IsReadAt {W : Type 0} (contents : W → Option (List ℕ)) (image : Image) (asked : DatabaseQuestion)
      (before written : W) (end : Result Status Failure) : Type 0 where
    pub opened : Held (FileStore D g)
    pub last : Held (FileStore D g)
    pub reading : IsFoundAt image opened
    pub done : IsRead contents opened last before written end asked

module _ {D : Type 0} (g : disk.Ghosts D) {W : Type 0} (contents : W → Option (List ℕ)) where
  -- The files held tables of the state, and this was read of them.
  pub record IsReadOver (s : State) (asked : DatabaseQuestion) (before written : W)
      (end : Result Status Failure) : Type 0 where
    pub image : Image
    pub found : Trees
    pub holds : HoldsDatabase image found
    pub tables : AreTablesOf found s
    pub reads : IsReadAt g contents image asked before written end
    pub sure : IsSure over_files reads.last

  -- The tables that were read represent the state that the files held.
  abbrev pub IsLeft : (s : State) (asked : DatabaseQuestion) (before written : W) (end : Result Status Failure)
      → IsReadOver s asked before written end → Type 0
  IsLeft s asked before written end over = RepresentsIfOpen over_files over.reads.last s

  -- The rows that the query shows of the state were printed.
  abbrev pub AccountsAreShown : Type 0
  AccountsAreShown =
      (s : State) (query : Query) (before written : W) (status : Status)
      → (over : IsReadOver s (AccountOf query) before written (Ok status))
      → IsAccount query s.account (contents before) (contents written)
      × IsLeft s (AccountOf query) before written (Ok status) over

  -- A question is answered as by the policy file that an export writes of the state, with the units of its board.
  abbrev pub AnswersAreOfTheExport : Type 0
  AnswersAreOfTheExport =
      (s : State) (question : PolicyQuestion) (before written : W) (end : Result Status Failure)
      → (over : IsReadOver s (AnswerTo question) before written end)
      → IsWritten contents before written (IsRowsAnswer (on_board s question) (exported_rows s)) end
      × (export_of s ≡ policy_text (exported_rows s)) × IsLeft s (AnswerTo question) before written end over
