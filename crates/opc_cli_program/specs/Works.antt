-- What an operation of the program does over tables.
use Rattle.std.specs.Prelude.{◌≡◌, ◌⊎◌, ℕ, Bool, List, Option, Result, IsErrAnd}
use Rattle.opc_state.specs.Changes.{IsKept}
use Rattle.opc_state.specs.Meaning.{Meaning}
use Rattle.opc_cli_failures.specs.declared.failure.Failure.{Failure}
use Rattle.opc_cli_failures.specs.declared.status.Status.{Status}
use Rattle.opc_cli_failures.specs.Statuses.{IsFailure}
use Rattle.opc_io.specs.declared.watched.Watched.{Watched}
use Rattle.opc_http_connections.specs.Links.{ClientSource}
use Rattle.opc_cli_tasks.specs.declared.work.Import.{Import}
use Rattle.opc_cli_tasks.specs.declared.work.Lines.TheVariants.{Script, Now}
use Rattle.opc_cli_tasks.specs.declared.work.Work.{Work}
use Rattle.opc_cli_tasks.specs.declared.work.Work.TheVariants as work
use Rattle.opc_cli_program.specs.Imports.{IsExport, IsImport}
use Rattle.opc_cli_program.specs.Lines.{AreProgramLines, IsMomentBy}
use Rattle.opc_cli_program.specs.Runs.{IsProgramRun}
use Rattle.opc_cli_program.specs.Services.{IsService}

module _ {T : Type 0} (m : Meaning T) {W : Type 0}
    (contents : W → Option (List ℕ)) (old new : T) (left : Option (List ℕ)) (before written : Watched W)
    (end : Result Status Failure) where
  -- The clock failed and nothing was done, or the policy file was imported at the time that it showed.
  abbrev pub IsImportNow : (shows : ℕ → Type 0) → Import → Type 0
  IsImportNow shows import =
      (IsErrAnd end (λ failure. IsFailure failure.fault) × (new ≡ old) × (written ≡ before))
      ⊎ ((moment : ℕ) × IsMomentBy shows moment
      × IsImport m old new end (λ (w : Watched W). contents w.inner)
      (λ (w : Watched W). w.failed) before written left moment import)

  -- Each operation does what its own definition states. `ports` and `sockets` state what is known of the clients of a
  -- listener there, `holds` what the file at a path holds, `opens` that a log at a path was opened, `logs` what a log
  -- holds, `shows` that the clock showed a time, `is_for_logs` that a stream is one for logs, and `keeps`, `writes` and
  -- `publishes` what was done in a folder of policies.
  module _ {A C D K L M N P S : Type 0} (ports : P → ClientSource C K) (sockets : S → ClientSource D K)
      (holds : List ℕ → Option (List ℕ)) (opens : List ℕ → L → Type 0) (logs : L → Option (List ℕ))
      (shows : ℕ → Type 0) (is_for_logs : M → Type 0) (streamed : M → Option (List ℕ))
      (keeps : N → (folder text : List ℕ) → Bool → Type 0) (writes : N → (folder text : List ℕ) → A → Type 0)
      (publishes : N → (folder name : List ℕ) → A → Type 0) (folders : N) where
    abbrev pub IsDone : Work → Type 0
    IsDone (work.Run policy (Script file) log) =
        IsProgramRun m opens logs (λ (w : Watched W). contents w.inner) (λ (w : Watched W). w.failed)
        holds old new policy log left before written end
    IsDone (work.Run policy (Now console) log) =
        AreProgramLines m (λ (w : Watched W). contents w.inner) (λ (w : Watched W). w.failed)
        shows console opens logs holds old new policy log left before written end
    IsDone (work.Import import) = IsImportNow shows import
    IsDone work.Export =
        IsKept m old new
        × IsExport m old new end (λ (w : Watched W). contents w.inner)
        (λ (w : Watched W). w.failed) before written
    IsDone (work.Serve serve) =
        IsService m ports sockets old new is_for_logs streamed keeps writes publishes folders serve end
        (contents before.inner) (contents written.inner)
