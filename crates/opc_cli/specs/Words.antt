-- What the program does for the arguments of its command line, and the status with which it ends.
use Rattle.std.specs.Prelude.{
  ◌≡◌,
  ◌⊎◌,
  ◌≤◌,
  ℕ,
  Bool,
  true,
  false,
  List,
  Option,
  Some,
  None,
  Result,
  Ok,
  Err,
  IfOk,
  option_map,
}
use Rattle.std.specs.Io.KnownBytes.{Appends}
use Rattle.std.specs.Borrow.{Bor}
use Rattle.sqlite_disk.specs.declared.Disk as disk
use Rattle.sqlite_disk.specs.declared.Files.{Files}
use Rattle.sqlite_store.specs.declared.store.FileStore.{FileStore}
use Rattle.sqlite.specs.Recovery.{Image}
use Rattle.sqlite.specs.declared.error.Error.{Error}
use Rattle.opc_terms.specs.declared.fault.Fault.{Fault}
use Rattle.opc_terms.specs.declared.fault.Fault.TheVariants.{Store}
use Rattle.opc_store.specs.declared.opening.OpenFault.{OpenFault}
use Rattle.opc_store.specs.Opening.{IsNotOpened, opening_fault}
use Rattle.opc_io.specs.declared.watched.Watched.{Watched}
use Rattle.opc_store.specs.Reading.{IsNotRead}
use Rattle.opc_account.specs.Asked.{query_at}
use Rattle.opc_account.specs.declared.asked.AskedQuery.{AskedQuery}
use Rattle.opc_cli_commands.specs.Commands.{table_text}
use Rattle.opc_cli_digest.specs.Answers.{IsPromptedAnswer}
use Rattle.opc_cli_failures.specs.declared.failure.Failure.{Failure}
use Rattle.opc_cli_failures.specs.declared.status.Status.{Status}
use Rattle.opc_cli_failures.specs.declared.status.Status.TheVariants.{Done, Failed}
use Rattle.opc_cli_failures.specs.Statuses.{IsFailure, status_of_end}
use Rattle.opc_http_serve.specs.declared.clock.TheConstants.{LAST_MOMENT}
use Rattle.opc_cli_tasks.specs.declared.work.Lines.{Lines}
use Rattle.opc_cli_tasks.specs.declared.work.Lines.TheVariants.{Script, Now}
use Rattle.opc_cli_tasks.specs.declared.source.PolicySource.{PolicySource}
use Rattle.opc_cli_tasks.specs.declared.source.PolicySource.TheVariants.{PolicyFile, Database}
use Rattle.opc_cli_tasks.specs.declared.task.Task.{Task}
use Rattle.opc_cli_tasks.specs.declared.task.Task.TheVariants as task
use Rattle.opc_cli_words.specs.Reading.{Ask, AskForNone}
use Rattle.opc_cli_program.specs.InputFiles.{AreBytesOf}
use Rattle.opc_cli_program.specs.declared.input_file.InputFile.{InputFile}
use Rattle.opc_cli_program.specs.declared.input_file.InputFile.TheVariants as input
use Rattle.opc_cli_questions.specs.Compared.{IsComparedWith, IsSideRefused}
use Rattle.opc_cli_questions.specs.EmptyRoom.{IsEmptyRoomNoted}
use Rattle.opc_cli_questions.specs.FileAnswers.{IsAnsweredByFile}
use Rattle.opc_cli_questions.specs.Printed.{left_in}
use Rattle.opc_cli_questions.specs.Reported.{IsEndReported, IsFaultReported}
use Rattle.opc_cli_questions.specs.declared.sides.PolicySide.{PolicySide}
use Rattle.opc_cli_tasks.specs.declared.question.Comparison.{Comparison}
use Rattle.opc_cli_tasks.specs.declared.work.Decide.{Decide}
use Rattle.opc_cli_tasks.specs.declared.work.Import.{Import}
use Rattle.opc_cli_tasks.specs.declared.work.Work.{Work}
use Rattle.opc_cli_tasks.specs.declared.work.Work.TheVariants as work
use Rattle.opc_cli_tasks.specs.declared.question.PolicyQuestion.{PolicyQuestion}
use Rattle.opc_cli.specs.RunFiles.{IsApart, IsShared, logged_run, unknown_files}
use Rattle.opc_cli.specs.declared.run_files.LoggedRun.{LoggedRun}
use Rattle.opc_cli.specs.declared.run_files.RunFile.{RunFile}
use Rattle.opc_cli.specs.Compares.{IsOtherSide, IsSideFrom}
use Rattle.opc_cli.specs.Deciding.{IsServedBy, IsTried}
use Rattle.opc_cli.specs.DryRuns.{IsDryRunAt}
use Rattle.opc_cli.specs.Reads.{AccountOf, AnswerTo, DatabaseQuestion, IsReadAt}
use Rattle.opc_cli.specs.Works.{AreLinesInMemory, IsRunInMemory, IsWorkAt, unknown_log, unknown_moment, unknown_opening}
use Rattle.opc_cli.specs.Made.{made_line}

-- the status of an operation over a file: that of its end, or a failure if the file was not closed
abbrev pub status_of_work : {A B : Type 0} → Result Status Failure → (closed : Result A B) → Status
status_of_work end (Ok files) = status_of_end end
status_of_work end (Err kept) = Failed

module _ {E : Type 0} (shown : E → Option (List ℕ)) where
  -- For an export that made the tables, that was printed, unless a write failed. For any other operation nothing was.
  abbrev pub IsMadeNoted : (quiet noted : Watched E) → (path : List ℕ) → Work → (are_made : Bool) → Type 0
  IsMadeNoted quiet noted path work.Export true = noted.failed ≡ false
      → Appends (shown quiet.inner) (shown noted.inner) (made_line path)
  IsMadeNoted quiet noted path task are_made = noted ≡ quiet

  -- The fault of its end was printed, and then, if the file was not closed, that the store failed.
  abbrev pub IsWorkReported : {A B : Type 0} → (quiet reported : Watched E)
      → Result Status Failure → (closed : Result A B)
      → Type 0
  IsWorkReported quiet reported end (Ok files) = IsEndReported shown quiet reported end
  IsWorkReported quiet reported end (Err kept) =
      (first : Watched E) × IsEndReported shown quiet first end × (reported.failed ≡ false → first.failed ≡ false)
      × IsFaultReported shown first reported Store

-- The program ran over new tables in memory. Nothing is known about what the files of the system hold.
pub record IsDoneInMemory {W E : Type 0} (contents : W → Option (List ℕ)) (shown : E → Option (List ℕ))
    (left : Option (List ℕ)) (before written : Watched W) (quiet reported : Watched E) (status : Status)
    (policy log : Option (Bor (List ℕ))) : Type 0 where
  pub end : Result Status Failure
  pub ran : IsRunInMemory (λ (w : Watched W). contents w.inner) (λ (w : Watched W). w.failed) unknown_opening
      unknown_log (λ path. None) policy log left before written end
  pub status_is : status ≡ status_of_end end
  pub end_reported : IsEndReported shown quiet reported end
  pub empty_noted : IfOk end (IsEmptyRoomNoted (λ (e : Watched E). shown e.inner) (λ (e : Watched E). e.failed) quiet
      reported policy)

-- Or the lines on its input were answered over such tables.
pub record AreLinesDoneInMemory {W E : Type 0} (contents : W → Option (List ℕ)) (shown : E → Option (List ℕ))
    (left : Option (List ℕ)) (before written : Watched W) (quiet reported : Watched E) (status : Status)
    (console : Option (List ℕ)) (policy log : Option (Bor (List ℕ))) : Type 0 where
  pub end : Result Status Failure
  pub answered : AreLinesInMemory (λ (w : Watched W). contents w.inner) (λ (w : Watched W). w.failed) unknown_moment
      console unknown_opening unknown_log (λ path. None) policy log left before written end
  pub status_is : status ≡ status_of_end end
  pub end_reported : IsEndReported shown quiet reported end
  pub empty_noted : IfOk end (IsEmptyRoomNoted (λ (e : Watched E). shown e.inner) (λ (e : Watched E). e.failed) quiet
      reported policy)

-- Either, over tables in memory.
abbrev pub IsInMemory : {W E : Type 0} → (contents : W → Option (List ℕ)) → (shown : E → Option (List ℕ))
    → (left : Option (List ℕ)) → (before written : Watched W) → (quiet reported : Watched E) → Status
    → (policy : Option (Bor (List ℕ))) → Lines → (log : Option (Bor (List ℕ))) → Type 0
IsInMemory contents shown left before written quiet reported status policy (Script file) log =
    IsDoneInMemory contents shown left before written quiet reported status policy log
IsInMemory contents shown left before written quiet reported status policy (Now console) log =
    AreLinesDoneInMemory contents shown left before written quiet reported status console policy log

-- The table of commands was printed, or an allocation or the output failed.
abbrev pub IsTablePrinted : {W : Type 0} → (contents : W → Option (List ℕ)) → (before written : Watched W)
    → Result Status Failure → Type 0
IsTablePrinted contents before written (Ok status) =
    (status ≡ Done) × Appends (contents before.inner) (contents written.inner) table_text
IsTablePrinted contents before written (Err failure) = IsFailure failure.fault

pub record AreCommandsListed {W E : Type 0} (contents : W → Option (List ℕ)) (shown : E → Option (List ℕ))
    (before written : Watched W) (quiet reported : Watched E) (status : Status) : Type 0 where
  pub end : Result Status Failure
  pub printed : IsTablePrinted contents before written end
  pub status_is : status ≡ status_of_end end
  pub end_reported : IsEndReported shown quiet reported end

-- For a database file that is read.
module _ {D : Type 0} (g : disk.Ghosts D) (is_fresh : Bool → D → Type 0) (image : Image) {W E : Type 0}
    (contents : W → Option (List ℕ)) (shown : E → Option (List ℕ)) (before written : Watched W)
    (quiet reported : Watched E) (status : Status) where
  -- The file was opened to be read, and what is asked for was read of it and written.
  pub record IsReadDone (asked : DatabaseQuestion) : Type 0 where
    pub end : Result Status Failure
    pub done : IsReadAt g contents image asked before.inner written.inner end
    pub status_is : status ≡ status_of_end end
    pub end_reported : IsEndReported shown quiet reported end

  -- It was not, and nothing was written.
  pub record IsUnread : Type 0 where
    pub fault : OpenFault
    pub not_read : IsNotRead g is_fresh image fault
    pub silent : written ≡ before
    pub status_is : status ≡ Failed
    pub fault_reported : IsFaultReported shown quiet reported (opening_fault fault)

  abbrev pub IsReadInFile : DatabaseQuestion → Type 0
  IsReadInFile asked = IsReadDone asked ⊎ IsUnread

module _ {W E : Type 0} (shown : E → Option (List ℕ)) (before written : Watched W) (quiet reported : Watched E)
    (status : Status) where
  -- What comes before a task failed, and nothing was done or written.
  pub record IsNotStarted : Type 0 where
    pub fault : Fault
    pub failure : IsFailure fault
    pub silent : written ≡ before
    pub status_is : status ≡ Failed
    pub fault_reported : IsFaultReported shown quiet reported fault

module _ {D : Type 0} (g : disk.Ghosts D) (is_fresh : Bool → D → Type 0) (image : Image) {W E : Type 0}
    (contents : W → Option (List ℕ)) (shown : E → Option (List ℕ)) (before written : Watched W)
    (quiet reported : Watched E) (status : Status) where
  -- The clock failed, or the query was read as it is at the time that the clock showed.
  abbrev pub IsAccountDone : AskedQuery → Type 0
  IsAccountDone asked = IsNotStarted shown before written quiet reported status
      ⊎ ((now : ℕ) × (now ≤ LAST_MOMENT)
      × IsReadInFile g is_fresh image contents shown before written quiet reported status
      (AccountOf (query_at now asked)))

-- Two policies are compared, or other programs are answered by one.
module _ {W E : Type 0} (contents : W → Option (List ℕ)) (shown : E → Option (List ℕ)) (before written : Watched W)
    (quiet reported : Watched E) (status : Status) where
  -- Other programs were answered.
  pub record IsDecideServed (decide : Decide) : Type 0 where
    pub end : Result Status Failure
    pub served : IsServedBy contents before.inner written.inner decide end
    pub status_is : status ≡ status_of_end end
    pub end_reported : IsEndReported shown quiet reported end

  abbrev pub IsDecideAfter : Decide → (tried : Result (Unit {0}) Failure) → Type 0
  IsDecideAfter decide (Ok done) = IsDecideServed decide
  IsDecideAfter decide (Err failure) =
      IsSideRefused contents shown before written quiet reported status failure.fault

  -- The policy file was read and loaded, and then they were.
  abbrev pub IsDecideDone : Decide → Type 0
  IsDecideDone decide = (tried : Result (Unit {0}) Failure) × IsTried tried × IsDecideAfter decide tried

  -- The new policy was read after the old one.
  abbrev pub AreComparedWith : Comparison → (old : PolicySide) → Type 0
  AreComparedWith compared old = (new : Result PolicySide Failure) × IsOtherSide compared.new new
      × IsComparedWith contents shown before written quiet reported status compared.form old new

  abbrev pub AreComparedBy : Comparison → (old : Result PolicySide Failure) → Type 0
  AreComparedBy compared (Ok old) = AreComparedWith compared old
  AreComparedBy compared (Err failure) =
      IsSideRefused contents shown before written quiet reported status failure.fault

  module _ {D : Type 0} (g : disk.Ghosts D) (is_as_read : Bool → D → Type 0) (image : Image) where
    -- The old policy was read first. If it is that of a database file, this is what the file holds.
    abbrev pub AreCompared : Comparison → Type 0
    AreCompared compared = (old : Result PolicySide Failure) × IsSideFrom g is_as_read image old compared.old
        × AreComparedBy compared old

-- An import is tried over a copy of a database file.
module _ {D : Type 0} (g : disk.Ghosts D) (is_as_read : Bool → D → Type 0) (image : Image) {W E : Type 0}
    (contents : W → Option (List ℕ)) (shown : E → Option (List ℕ)) (left : Option (List ℕ)) (before written : Watched W)
    (quiet reported : Watched E) (status : Status) where
  pub record IsDryRunDone (import : Import) : Type 0 where
    pub end : Result Status Failure
    pub done : IsDryRunAt g contents image import left before written end
    pub status_is : status ≡ status_of_end end
    pub end_reported : IsEndReported shown quiet reported end

  abbrev pub IsDryRunInFile : Import → Type 0
  IsDryRunInFile import = IsDryRunDone import
      ⊎ IsUnread g is_as_read image contents shown before written quiet reported status

-- `image` is what a database file holds.
module _ {D : Type 0} (g : disk.Ghosts D) (is_fresh : Bool → D → Type 0) (image : Image) {W E : Type 0}
    (contents : W → Option (List ℕ)) (shown : E → Option (List ℕ)) (left : Option (List ℕ)) (before written : Watched W)
    (quiet reported : Watched E) (status : Status) where
  -- A question about a policy was answered from its source: by the policy file at a path, by that on the input, or by
  -- the database.
  abbrev pub IsAnsweredFrom : PolicySource → PolicyQuestion → Type 0
  IsAnsweredFrom (PolicyFile policy) asked =
      IsAnsweredByFile contents shown before written quiet reported status asked (left_in (λ path. None) left policy)
  IsAnsweredFrom (Database path) asked =
      IsReadInFile g is_fresh image contents shown before written quiet reported status (AnswerTo asked)

-- For a database file: `image` is what it holds at first.
module _ {D : Type 0} (g : disk.Ghosts D) (is_fresh : Bool → D → Type 0) (image : Image) {W E : Type 0}
    (contents : W → Option (List ℕ)) (shown : E → Option (List ℕ)) (left : Option (List ℕ)) (before written : Watched W)
    (quiet reported : Watched E) (status : Status) where
  -- The file was opened, the operation run over its tables, and the file closed, or not. An export that made the tables
  -- reports that first.
  pub record IsDoneInFile (path : List ℕ) (work : Work) : Type 0 where
    pub end : Result Status Failure
    pub closed : Result (Files D) (Error × FileStore D g)
    pub are_made : Bool
    pub done : IsWorkAt {g = g} contents image work left before written end closed are_made
    pub status_is : status ≡ status_of_work end closed
    pub noted : Watched E
    pub made_noted : IsMadeNoted shown quiet noted path work are_made
    pub end_reported : IsWorkReported shown noted reported end closed
    pub kept : reported.failed ≡ false → noted.failed ≡ false

  -- The file was not opened, and nothing was done or written.
  pub record IsNotBegun : Type 0 where
    pub fault : OpenFault
    pub not_opened : IsNotOpened g is_fresh image fault
    pub silent : written ≡ before
    pub status_is : status ≡ Failed
    pub fault_reported : IsFaultReported shown quiet reported (opening_fault fault)

  -- The digest of the password on the input was printed, or not; on a terminal, the prompt was printed.
  abbrev pub IsDigestAnswered : Type 0
  IsDigestAnswered = (is_terminal : Bool)
      × IsPromptedAnswer (λ (e : Watched E). shown e.inner) (λ (e : Watched E). e.failed) contents before.inner
      written.inner quiet reported is_terminal left status

  abbrev pub IsWorkInFile : (path : List ℕ) → Work → Type 0
  IsWorkInFile path work = IsDoneInFile path work ⊎ IsNotBegun

-- What the program does for its arguments: its operations open the database file, and questions read a copy.
module _ {D C : Type 0} (g : disk.Ghosts D) (is_fresh : Bool → D → Type 0) (copies : disk.Ghosts C)
    (is_as_read : Bool → C → Type 0) (image : Image) {W E : Type 0} (contents : W → Option (List ℕ))
    (shown : E → Option (List ℕ)) (left : Option (List ℕ)) (before written : Watched W) (quiet reported : Watched E)
    (status : Status) where
  abbrev pub IsAnswered : PolicySource → PolicyQuestion → Type 0
  IsAnswered = IsAnsweredFrom copies is_as_read image contents shown left before written quiet reported status

  -- What a task asks for was done.
  abbrev pub IsTaskDone : Task → Type 0
  IsTaskDone (task.Ask source asked) = IsAnswered source asked
  IsTaskDone (task.Diff compared) =
      AreCompared contents shown before written quiet reported status copies is_as_read image compared
  IsTaskDone (task.DryRun path import) =
      IsDryRunInFile copies is_as_read image contents shown left before written quiet reported status import
  IsTaskDone (task.Account path asked) =
      IsAccountDone copies is_as_read image contents shown before written quiet reported status asked
  IsTaskDone (task.Work path work) =
      IsWorkInFile g is_fresh image contents shown left before written quiet reported status path.now work
  IsTaskDone (task.InMemory policy lines log) =
      IsInMemory contents shown left before written quiet reported status policy lines log
  IsTaskDone (task.Decide decide) = IsDecideDone contents shown before written quiet reported status decide
  IsTaskDone task.Digest = IsDigestAnswered g is_fresh image contents shown left before written quiet reported status
  IsTaskDone task.Commands = AreCommandsListed contents shown before written quiet reported status

-- the script that lines name
abbrev pub script_file : Lines → Option InputFile
script_file (Script file) = option_map (λ path. input.Script path) file
script_file (Now console) = None

-- the file that a task reads in the place of the standard input, if it names one
abbrev pub input_file : Task → Option InputFile
input_file (task.Work path (work.Run policy lines log)) = script_file lines
input_file (task.Work path (work.Import import)) = option_map (λ file. input.Policy file) import.file
input_file (task.DryRun path import) = option_map (λ file. input.Policy file) import.file
input_file (task.InMemory policy lines log) = script_file lines
input_file other = None

module _ {D C : Type 0} (g : disk.Ghosts D) (is_fresh : Bool → D → Type 0) (copies : disk.Ghosts C)
    (is_as_read : Bool → C → Type 0) (image : Image) {W E : Type 0} (contents : W → Option (List ℕ))
    (shown : E → Option (List ℕ)) (left : Option (List ℕ)) (before written : Watched W) (quiet reported : Watched E)
    (status : Status) where
  -- The task was done as over an input with the bytes of the file. Nothing is known about what the files of the system
  -- hold.
  pub record IsDoneByFile (task : Task) (file : InputFile) : Type 0 where
    pub bytes : List ℕ
    pub are : AreBytesOf (λ path. None) file bytes
    pub done : IsTaskDone g is_fresh copies is_as_read image contents shown (Some bytes) before written quiet reported
        status task

  -- A task was done by what it reads: the standard input, or the file that it names in its place.
  abbrev pub IsTaskDoneBy : Task → Option InputFile → Type 0
  IsTaskDoneBy task None =
      IsTaskDone g is_fresh copies is_as_read image contents shown left before written quiet reported status task
  IsTaskDoneBy task (Some file) = IsDoneByFile task file ⊎ IsNotStarted shown before written quiet reported status

  -- A task was done, if it is no run with a log, or the log was found to be none of the other files of the run.
  -- Otherwise nothing was done.
  abbrev pub IsDoneApart : (finds : List ℕ → RunFile → Bool → Type 0) → Task → Option LoggedRun → Type 0
  IsDoneApart finds task None = IsTaskDoneBy task (input_file task)
  IsDoneApart finds task (Some run) = (IsApart finds run × IsTaskDoneBy task (input_file task))
      ⊎ (IsShared finds run × IsNotStarted shown before written quiet reported status)

  -- What the arguments ask for was done; or they ask for no task, and that was reported.
  abbrev pub AreDone : (words : List (List ℕ)) → Type 0
  AreDone words = ((task : Task) × Ask words task × IsDoneApart unknown_files task (logged_run task))
      ⊎ AskForNone words (λ (w : Watched W). contents w.inner) shown before written quiet reported status
