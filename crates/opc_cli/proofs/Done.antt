-- What was done for a task, and its status.
use Rattle.std.proofs.Common.{◌≡◌, ◌≤◌, ℕ, Bool, List, Option, Ok, ap, arith, inl, inr, refl, subst}
use Rattle.sqlite_disk.specs.declared.Disk as disk
use Rattle.sqlite.specs.Recovery.{Image}
use Rattle.opc_terms.specs.declared.fault.Fault.{Fault}
use Rattle.opc_store.specs.declared.opening.OpenFault.{OpenFault}
use Rattle.opc_store.specs.declared.opening.OpenFault.TheVariants as opening
use Rattle.opc_store.specs.Opening.{opening_fault}
use Rattle.opc_io.specs.declared.watched.Watched.{Watched}
use Rattle.opc_cli_failures.specs.declared.status.Status.{Status}
use Rattle.opc_cli_failures.specs.declared.status.Status.TheVariants.{Done, Refused, BadInput, Failed}
use Rattle.opc_cli_failures.specs.Statuses.{IsFailure, number_of, status_of}
use Rattle.opc_cli_tasks.specs.declared.task.Task.{Task}
use Rattle.opc_cli_words.specs.Reading.{AreRead}
use Rattle.opc_cli_questions.specs.Reported.{IsFaultReported}
use Rattle.opc_cli.specs.RunFiles.{logged_run, unknown_files}
use Rattle.opc_cli.specs.Words.{AreDone, IsDoneApart}

pub at_most_three : (status : Status) → number_of status ≤ 3
at_most_three Done = omega arith
at_most_three Refused = omega arith
at_most_three BadInput = omega arith
at_most_three Failed = omega arith

-- an opening that fails is a failure
pub openings_fail : (fault : OpenFault) → status_of (opening_fault fault) ≡ Failed
openings_fail opening.NoMemory = refl
openings_fail opening.Store = refl
openings_fail (opening.NotOurs version) = refl

pub failures_fail : (fault : Fault) → IsFailure fault → status_of fault ≡ Failed
failures_fail fault (inl memory) = ap status_of memory
failures_fail fault (inr store) = ap status_of store

pub same_fault : {E : Type 0} (shown : E → Option (List ℕ)) (quiet reported : Watched E) (one other : Fault)
    → one ≡ other → IsFaultReported shown quiet reported one → IsFaultReported shown quiet reported other
same_fault shown quiet reported one other is h = subst (IsFaultReported shown quiet reported) is h

-- what is done for arguments
module _ {D C : Type 0} (g : disk.Ghosts D) (is_fresh : Bool → D → Type 0) (copies : disk.Ghosts C) (is_as_read : Bool → C → Type 0) (image : Image)
    {W E : Type 0} (contents : W → Option (List ℕ)) (shown : E → Option (List ℕ)) (left : Option (List ℕ)) where
  pub task_done : (words : List (List ℕ)) (before first written : Watched W) (quiet heard reported : Watched E) (status : Status) (task : Task)
      → AreRead words (λ (w : Watched W). contents w.inner) shown before first quiet heard (Ok task)
      → IsDoneApart g is_fresh copies is_as_read image contents shown left first written heard reported status unknown_files task (logged_run task)
      → AreDone g is_fresh copies is_as_read image contents shown left before written quiet reported status words
  task_done words before first written quiet heard reported status task (ask, same, silent) done = inl (
    task,
    ask,
    subst (λ w. IsDoneApart g is_fresh copies is_as_read image contents shown left w written quiet reported status unknown_files task (logged_run task)) same
        (subst (λ e. IsDoneApart g is_fresh copies is_as_read image contents shown left first written e reported status unknown_files task (logged_run task))
        silent done),
  )

  pub same_words : (one other : List (List ℕ)) (before written : Watched W) (quiet reported : Watched E) (status : Status) → one ≡ other
      → AreDone g is_fresh copies is_as_read image contents shown left before written quiet reported status one
      → AreDone g is_fresh copies is_as_read image contents shown left before written quiet reported status other
  same_words one other before written quiet reported status same done =
      subst (AreDone g is_fresh copies is_as_read image contents shown left before written quiet reported status) same done
