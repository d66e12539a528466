-- The outcome of a whole operation over the tables of a database file, from what the files held to what they hold.
use Rattle.std.specs.Prelude.{◌≡◌, ◌⊎◌, ℕ, Bool, false, List, Option, Some, None, Result, Ok, Err, IsUtf8}
use Rattle.std.specs.Borrow.{Bor}
use Rattle.std.specs.Io.KnownBytes.{Appends}
use Rattle.sqlite_disk.specs.declared.Disk as disk
use Rattle.sqlite_disk.specs.declared.Files.{Files}
use Rattle.sqlite_trees.specs.Tree.{Trees}
use Rattle.sqlite.specs.Closing.{HoldsAlone}
use Rattle.sqlite.specs.Files.{HoldsDatabase, image_of}
use Rattle.sqlite.specs.Recovery.{Image}
use Rattle.sqlite.specs.WalFiles.{outcomes}
use Rattle.sqlite.specs.WalReads.{AreClean}
use Rattle.opc_terms.specs.declared.fault.Fault.{Fault}
use Rattle.opc_terms.specs.declared.rule.Rule.{Rule}
use Rattle.opc_policy_members.specs.declared.row.Row.{Row}
use Rattle.opc_board.specs.declared.line.Line.{Line}
use Rattle.opc_state.specs.State.{State}
use Rattle.opc_store_schema.specs.Represented.{AreTablesOf}
use Rattle.opc_machine.specs.declared.request.Answer.{Answer}
use Rattle.opc_machine.specs.declared.request.Answer.TheVariants.{Done}
use Rattle.opc_machine.specs.Bootstrap.{bootstrapped}
use Rattle.opc_machine.specs.Inputs.{Input, inputs_of}
use Rattle.opc_machine.specs.Inputs as input
use Rattle.opc_machine.specs.Machine.{Runs, after, answer_of, outcome}
use Rattle.opc_cli_failures.specs.declared.failure.Failure.{Failure}
use Rattle.opc_cli_failures.specs.declared.status.Status.{Status}
use Rattle.opc_cli_failures.specs.Statuses.{IsFailure}
use Rattle.opc_cli_questions.specs.PolicyFiles.{AreRead, IsRefused}
use Rattle.opc_cli_script.specs.Scripts.{bad_line, requests_in}
use Rattle.opc_cli_script.specs.Statuses.{status_of}
use Rattle.opc_cli_script.specs.Transcripts.{transcript}
use Rattle.opc_http_serve.specs.Policies.{export_of}
use Rattle.opc_cli_program.specs.Imports.{IsWritten, lines_text}
use Rattle.opc_cli_program.specs.Runs.{AreScriptBytes}
use Rattle.opc_io.specs.declared.watched.Watched.{Watched}
use Rattle.opc_cli_tasks.specs.declared.work.Import.{Import as Asked}
use Rattle.opc_cli_tasks.specs.declared.work.Lines.TheVariants.{Script}
use Rattle.opc_cli_tasks.specs.declared.work.Work.{Work}
use Rattle.opc_cli_tasks.specs.declared.work.Work.TheVariants.{Run, Import, Export}
use Rattle.opc_cli.specs.Works.{IsWorkAt}

-- Why a first policy is refused: the file has none, or its rows are.
abbrev pub IsFirstRefused : State → Fault → Type 0
IsFirstRefused s fault = IsRefused None fault
    ⊎ ((rows : List Row) × AreRead None rows × (bootstrapped rows s ≡ Err fault))

module _ {D : Type 0} (g : disk.Ghosts D) where
  -- The files hold tables of the state, as they read now and as a crash leaves them.
  pub record HoldTablesOf (files : Files D) (s : State) : Type 0 where
    pub trees : Trees
    pub tables : AreTablesOf trees s
    pub seen : HoldsAlone (image_of g files) trees
    pub left : (image : Image) → outcomes g files.log files.db image → HoldsAlone image trees

  -- The requests of a script were run from a state, its answers written, and the files hold the state that they led to.
  pub record IsKeptRun (s : State) (script : List ℕ) (before written : Option (List ℕ)) (status : Status)
      (files : Files D) : Type 0 where
    pub answers : List Answer
    pub last : State
    pub runs : Runs s (inputs_of (requests_in script)) answers last
    pub text : Appends before written (transcript (requests_in script) answers)
    pub ends : status ≡ status_of answers
    pub kept : HoldTablesOf files last

  -- A script was read from what the input had left. If no line of it is bad, it was run from this state.
  abbrev pub IsKeptScript : State → (left before written : Option (List ℕ)) → Status → Files D → Type 0
  IsKeptScript s left before written status files =
      (script : List ℕ) × AreScriptBytes left script
      × (IsUtf8 script → bad_line script ≡ None → IsKeptRun s script before written status files)

  -- The rows of a first policy were taken, and the script run from the state that they made.
  pub record IsKeptFirstRun (s : State) (left before written : Option (List ℕ)) (status : Status)
      (files : Files D) : Type 0 where
    pub rows : List Row
    pub read : AreRead None rows
    pub first : State
    pub taken : bootstrapped rows s ≡ Ok first
    pub run : IsKeptScript first left before written status files

  -- The request was done, its lines written, and the files hold the state that it makes.
  pub record IsKeptRequest (s : State) (moment : ℕ) (r : Input) (before written : Option (List ℕ))
      (files : Files D) : Type 0 where
    pub lines : List Line
    pub rule : Option Rule
    pub answers : answer_of (outcome s r) ≡ Done lines rule
    pub text : Appends before written (lines_text lines)
    pub kept : HoldTablesOf files (after s moment r (outcome s r))

  module _ {W : Type 0} (contents : W → Option (List ℕ)) where
    -- In all of these the files held tables of the state, the operation was run over them, and the files were closed.
    pub record IsWorkOver (s : State) (work : Work) (left : Option (List ℕ)) (before written : Watched W)
        (end : Result Status Failure) (files : Files D) : Type 0 where
      pub image : Image
      pub found : Trees
      pub holds : HoldsDatabase image found
      pub tables : AreTablesOf found s
      pub are_made : Bool
      pub works : IsWorkAt {g = g} contents image work left before written end (Ok files) are_made
      pub clean : AreClean g files.log files.db

    -- If a script without a bad line was run, they hold tables of the state that its requests lead to,
    abbrev pub RunsAreKept : Type 0
    RunsAreKept =
        (s : State) (script log : Option (Bor (List ℕ))) (left : Option (List ℕ)) (before written : Watched W)
        (status : Status) (files : Files D)
        → IsWorkOver s (Run None (Script script) log) left before written (Ok status) files
        → IsKeptScript s left (contents before.inner) (contents written.inner) status files

    -- and they do the same after a first policy, which was taken before.
    abbrev pub FirstPoliciesAreKept : Type 0
    FirstPoliciesAreKept =
        (s : State) (path : Bor (List ℕ)) (script log : Option (Bor (List ℕ))) (left : Option (List ℕ))
        (before written : Watched W) (status : Status) (files : Files D)
        → IsWorkOver s (Run (Some path) (Script script) log) left before written (Ok status) files
        → IsKeptFirstRun s left (contents before.inner) (contents written.inner) status files

    -- If the run ends by a fault that is not of memory, the store or a device, the first policy was refused, nothing
    -- was printed, and they hold tables of the state as it was.
    abbrev pub RefusedPoliciesChangeNothing : Type 0
    RefusedPoliciesChangeNothing =
        (s : State) (path : Bor (List ℕ)) (script log : Option (Bor (List ℕ))) (left : Option (List ℕ))
        (before written : Watched W) (failure : Failure) (files : Files D)
        → IsWorkOver s (Run (Some path) (Script script) log) left before written (Err failure) files
        → (IsFailure failure.fault → ⊥)
        → IsFirstRefused s failure.fault × (written ≡ before) × HoldTablesOf files s

    -- An import at a console that succeeds was done, as one request,
    abbrev pub ImportsAreKept : Type 0
    ImportsAreKept =
        (s : State) (import : Asked) (console : List ℕ) (left : Option (List ℕ)) (before written : Watched W)
        (status : Status) (files : Files D)
        → IsWorkOver s (Import import) left before written (Ok status) files → import.console ≡ Some console
        → (rows : List Row) × AreRead left rows
        × ((moment : ℕ) × IsKeptRequest s moment (input.Import console import.batch rows) (contents before.inner)
        (contents written.inner) files)

    -- and one without a console was taken as a first policy, and nothing was printed.
    abbrev pub FirstImportsAreKept : Type 0
    FirstImportsAreKept =
        (s : State) (import : Asked) (left : Option (List ℕ)) (before written : Watched W) (status : Status)
        (files : Files D)
        → IsWorkOver s (Import import) left before written (Ok status) files → import.console ≡ None
        → (rows : List Row) × AreRead left rows
        × ((first : State) × (bootstrapped rows s ≡ Ok first) × (written ≡ before) × HoldTablesOf files first)

    -- An export writes the policy file of the state, whose tables the files still hold; these do not count as made by
    -- it.
    abbrev pub ExportsLeaveTheFile : Type 0
    ExportsLeaveTheFile =
        (s : State) (left : Option (List ℕ)) (before written : Watched W) (end : Result Status Failure)
        (files : Files D)
        → (over : IsWorkOver s Export left before written end files)
        → IsWritten (export_of s) (contents before.inner) (contents written.inner) end × HoldTablesOf files s
        × (over.are_made ≡ false)
