-- What is read from a file that holds tables of a state.
use Rattle.sqlite_disk.specs.declared.Disk as disk
use Rattle.std.proofs.Common.{ℕ, List, Option, Result, refl}
use Rattle.sqlite.specs.Files.{over_files}
use Rattle.opc_cli_failures.specs.declared.failure.Failure.{Failure}
use Rattle.opc_cli_failures.specs.declared.status.Status.{Status}
use Rattle.opc_state.specs.Changes.{IsKept}
use Rattle.opc_state.specs.State.{State}
use Rattle.opc_store.specs.StoreTables.{RepresentsIfOpen, store_meaning}
use Rattle.opc_cli.specs.Reads.{AccountsAreShown, AnswersAreOfTheExport, DatabaseQuestion, IsLeft, IsReadOver}

module _ {D : Type 0} (g : disk.Ghosts D) {W : Type 0} (contents : W → Option (List ℕ)) (s : State) (asked : DatabaseQuestion)
    (before written : W) (end : Result Status Failure) (over : IsReadOver g contents s asked before written end)
    (kept : IsKept (store_meaning over_files) over.reads.opened over.reads.last) where
  start : RepresentsIfOpen over_files over.reads.opened s
  start _ = over.reads.reading.found (kept.sure over.sure) over.found over.holds s over.tables

  stay : IsLeft g contents s asked before written end over
  stay = kept.same over.sure s start

pub accounts_shown : {D : Type 0} (g : disk.Ghosts D) {W : Type 0} (contents : W → Option (List ℕ)) → AccountsAreShown g contents
accounts_shown g contents s query before written status over =
    let kept = over.reads.done.shows.kept in (
      (over.reads.done.shows.answers over.sure s (start g contents s _ before written _ over kept)).1,
      stay g contents s _ before written _ over kept,
    )

pub answers_exported : {D : Type 0} (g : disk.Ghosts D) {W : Type 0} (contents : W → Option (List ℕ)) → AnswersAreOfTheExport g contents
answers_exported g contents s question before written end over =
    let kept = over.reads.done.kept in (
      over.reads.done.answers over.sure s (start g contents s _ before written end over kept),
      refl,
      stay g contents s _ before written end over kept,
    )
