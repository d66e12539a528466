-- A task that was answered, for the words that ask for it.
use Rattle.std.proofs.Common.{◌≡◌, ℕ, List, Option, Ok, inl, subst}
use Rattle.opc_io.specs.declared.watched.Watched.{Watched}
use Rattle.opc_cli_failures.specs.declared.status.Status.{Status}
use Rattle.opc_cli_tasks.specs.declared.task.Task.{Task}
use Rattle.opc_cli_words.specs.Reading.{AreRead}
use Rattle.opc_embedded.specs.Answers.{AreAnswered, IsTaskAnswered}

module _ {W E : Type 0} (contents : W → Option (List ℕ)) (shown : E → Option (List ℕ)) (policy new : List ℕ) where
  pub task_answered : (words : List (List ℕ)) (before first written : Watched W) (quiet heard reported : Watched E) (status : Status) (task : Task)
      → AreRead words (λ (w : Watched W). contents w.inner) shown before first quiet heard (Ok task)
      → IsTaskAnswered contents shown policy new first written heard reported status task
      → AreAnswered contents shown policy new before written quiet reported status words
  task_answered words before first written quiet heard reported status task (ask, same, silent) done = inl (
    task,
    ask,
    subst (λ w. IsTaskAnswered contents shown policy new w written quiet reported status task) same
        (subst (λ e. IsTaskAnswered contents shown policy new first written e reported status task) silent done),
  )
