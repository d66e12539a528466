-- An operation over the tables of a database file, from its opening to its closing, and a run over tables in memory.
use Rattle.std.specs.Prelude.{◌≡◌, ◌⊎◌, ℕ, Bool, List, Option, None, Result, IfOk, IsErrAnd, IsTrue}
use Rattle.std.specs.Borrow.{Bor}
use Rattle.std.specs.declared.fs.File.{File}
use Rattle.std.specs.declared.net.tcp.TcpListener.{TcpListener}
use Rattle.std.specs.declared.net.tcp.TcpStream.{TcpStream}
use Rattle.std.specs.declared.rt.LibcRuntime.{LibcRuntime}
use Rattle.std.specs.declared.rt.Stderr.{Stderr}
use Rattle.sqlite_disk.specs.declared.Disk as disk
use Rattle.sqlite_disk.specs.declared.Files.{Files}
use Rattle.sqlite_store.specs.declared.store.FileStore.{FileStore}
use Rattle.sqlite.specs.Closing.{IsCopied}
use Rattle.sqlite.specs.Held.{Held, state}
use Rattle.sqlite.specs.Recovery.{Image}
use Rattle.sqlite.specs.Steps.{over_memory}
use Rattle.sqlite.specs.Files.{over_files, file_state}
use Rattle.sqlite.specs.WalReads.{AreClean}
use Rattle.sqlite.specs.declared.error.Error.{Error}
use Rattle.opc_state.specs.State.{empty}
use Rattle.opc_store_schema.specs.Represented.{Represents}
use Rattle.opc_store.specs.Opening.{IsOpenedAt}
use Rattle.opc_store.specs.StoreTables.{IsSure, store_meaning}
use Rattle.opc_http_connections.specs.declared.unix.UnixClient.{UnixClient}
use Rattle.opc_http_connections.specs.declared.unix.SocketListener.{SocketListener}
use Rattle.opc_http_serve.specs.Coming.{unknown_clients}
use Rattle.opc_cli_failures.specs.declared.status.Status.{Status}
use Rattle.opc_cli_failures.specs.declared.failure.Failure.{Failure}
use Rattle.opc_cli_failures.specs.Statuses.{IsFailure}
use Rattle.opc_io.specs.declared.watched.Watched.{Watched}
use Rattle.opc_cli_program.specs.Lines.{AreProgramLines}
use Rattle.opc_cli_program.specs.Runs.{IsProgramRun}
use Rattle.opc_cli_program.specs.Works.{IsDone}
use Rattle.opc_cli_tasks.specs.declared.work.Work.{Work}
use Rattle.opc_cli_tasks.specs.declared.work.Work.TheVariants.{Export}
use Rattle.opc_store_file.specs.declared.site.IfMissing.{IfMissing}
use Rattle.opc_store_file.specs.declared.site.IfMissing.TheVariants.{Make, Refuse}

-- Nothing is known of what is opened for a log, nor of what it holds.
abbrev pub unknown_opening : List ℕ → File → Type 0
unknown_opening path file = Unit {0}

abbrev pub unknown_log : File → Option (List ℕ)
unknown_log file = None

-- Nor of what a service logs to.
abbrev pub unknown_stream : Stderr → Type 0
unknown_stream stream = Unit {0}

abbrev pub unknown_text : Stderr → Option (List ℕ)
unknown_text stream = None

-- Nor of what its folder of policies holds, and what is written there.
abbrev pub unknown_state : LibcRuntime → (folder text : List ℕ) → Bool → Type 0
unknown_state folders folder text is = Unit {0}

abbrev pub unknown_aside : LibcRuntime → (folder text : List ℕ) → File → Type 0
unknown_aside folders folder text aside = Unit {0}

-- Nothing is known of what the clock shows.
abbrev pub unknown_moment : ℕ → Type 0
unknown_moment moment = Unit {0}

-- an export is refused if there is no database file; every other work makes it
abbrev pub if_missing : Work → IfMissing
if_missing Export = Refuse
if_missing other = Make

module _ {D : Type 0} {g : disk.Ghosts D} where
  -- What is there is what was committed last; if the files are closed, it is in the database file.
  abbrev pub IsEnd : Held (FileStore D g) → Result (Files D) (Error × FileStore D g) → Type 0
  IsEnd last closed =
      (IsTrue (file_state last).is_open → (file_state last).now ≡ (file_state last).committed)
      × IfOk closed (λ files. AreClean g files.log files.db → IsCopied last files)

  -- The operation was run over the tables that were opened, and the file was closed over what it left. Nothing is known
  -- about what the files of the system hold, nor about what bytes come and go over its connections.
  pub record IsWorkAt {W : Type 0} (contents : W → Option (List ℕ)) (image : Image) (work : Work)
      (left : Option (List ℕ)) (before written : Watched W) (end : Result Status Failure)
      (closed : Result (Files D) (Error × FileStore D g)) (are_made : Bool) : Type 0 where
    pub opened : Held (FileStore D g)
    pub last : Held (FileStore D g)
    pub folders : LibcRuntime
    pub opening : IsOpenedAt image are_made opened
    pub sure : IsSure over_files last → IsSure over_files opened
    pub done : IsDone (store_meaning over_files) contents opened last left before written end
        (unknown_clients TcpListener {C = TcpStream} {K = LibcRuntime})
        (unknown_clients SocketListener {C = UnixClient})
        (λ path. None) unknown_opening unknown_log unknown_moment unknown_stream unknown_text unknown_state
        unknown_aside unknown_aside folders work
    pub ends : IsEnd last closed

-- The program ran over new tables in memory, those of an empty state. Or their allocation failed, and nothing was run.
abbrev pub IsRunInMemory : {K L : Type 0} → (K → Option (List ℕ)) → (K → Bool) → (opens : List ℕ → L → Type 0)
    → (logs : L → Option (List ℕ)) → (holds : List ℕ → Option (List ℕ)) → (policy log : Option (Bor (List ℕ)))
    → Option (List ℕ) → (before written : K) → Result Status Failure → Type 0
IsRunInMemory held has_failed opens logs holds policy log left before written end =
    (IsErrAnd end (λ failure. IsFailure failure.fault) × (written ≡ before))
    ⊎ ((opened : _) × (last : _) × Represents (state over_memory opened).now empty
    × IsProgramRun (store_meaning over_memory) opens logs held has_failed holds
    opened last policy log left before written end)

-- Or it answered the lines on its input over such tables.
abbrev pub AreLinesInMemory : {K L : Type 0} → (K → Option (List ℕ)) → (K → Bool) → (shows : ℕ → Type 0)
    → (console : Option (List ℕ)) → (opens : List ℕ → L → Type 0) → (logs : L → Option (List ℕ))
    → (holds : List ℕ → Option (List ℕ)) → (policy log : Option (Bor (List ℕ))) → Option (List ℕ)
    → (before written : K) → Result Status Failure → Type 0
AreLinesInMemory held has_failed shows console opens logs holds policy log left before written end =
    (IsErrAnd end (λ failure. IsFailure failure.fault) × (written ≡ before))
    ⊎ ((opened : _) × (last : _) × Represents (state over_memory opened).now empty
    × AreProgramLines (store_meaning over_memory) held has_failed shows console opens logs holds
    opened last policy log left before written end)
