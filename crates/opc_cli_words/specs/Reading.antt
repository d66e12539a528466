-- What is read from the arguments of the command line, and what is reported if they ask for no task.
use Rattle.std.specs.Prelude.{
  ◌≡◌,
  ◌≢◌,
  ◌⊎◌,
  ◌++◌,
  ℕ,
  false,
  List,
  [],
  Option,
  None,
  Result,
  Ok,
  Err,
  drop,
  map,
  String,
  string_bytes,
}
use Rattle.std.specs.Io.KnownBytes.{Appends}
use Rattle.std.specs.declared.alloc.Global.{Global}
use Rattle.clap.specs.Faults.{fault_of}
use Rattle.clap.specs.Kinds.{IsAmong}
use Rattle.clap.specs.Simple.{subcommand_of}
use Rattle.clap.specs.Walk.{Row}
use Rattle.clap.specs.declared.error.kind.ErrorKind.{ErrorKind}
use Rattle.clap.specs.declared.error.kind.ErrorKind.TheVariants.{DisplayHelp, DisplayVersion, OutOfMemory}
use Rattle.opc_terms.specs.declared.fault.Fault.{Fault}
use Rattle.opc_io.specs.declared.watched.Watched.{Watched}
use Rattle.opc_cli_failures.specs.declared.status.Status.{Status}
use Rattle.opc_cli_failures.specs.declared.status.Status.TheVariants.{Done, Refused, BadInput, Failed}
use Rattle.opc_cli_failures.specs.Printing.{IsReported}
use Rattle.opc_cli_failures.specs.Statuses.{IsFailure}
use Rattle.opc_cli_tasks.specs.declared.task.Task.{Task}
use Rattle.opc_cli_words.specs.CommandLine.{command_line}
use Rattle.opc_cli_words.specs.Joined.{joined}
use Rattle.opc_cli_words.specs.Mistakes.{mistake_line}
use Rattle.opc_cli_words.specs.declared.mistake.Mistake.{Mistake}
use Rattle.opc_cli_words.specs.Tasks.{AsksFor, FailsAt}
use Rattle.opc_cli_words.specs.Version.{version_line}

-- the arguments after the first, which is the program's own name
abbrev pub words_after : List (String Global) → List (List ℕ)
words_after words = map string_bytes (drop 1 words)

-- those of the program: an option and how long ago are one
abbrev pub arguments : List (String Global) → List (List ℕ)
arguments words = drop 1 (joined (map string_bytes words))

-- The line of a mistake was printed, and perhaps one about the value.
pub record IsMistakePrinted (before written : Option (List ℕ)) (command : List ℕ) (mistake : Mistake) : Type 0 where
  pub more : List ℕ
  pub text : Appends before written (mistake_line command mistake ++ more)

-- help, or the version
abbrev pub IsHelp : ErrorKind → Type 0
IsHelp kind = (kind ≡ DisplayHelp) ⊎ (kind ≡ DisplayVersion)

module _ (words : List (List ℕ)) where
  -- The command line takes the arguments, and they ask for this task.
  pub record Ask (task : Task) : Type 0 where
    pub taken : fault_of command_line words ≡ []
    pub asks : AsksFor (subcommand_of command_line words) task

  -- The command line does not take the arguments.
  pub record AreNotTaken : Type 0 where
    pub kind : ErrorKind
    pub among : IsAmong kind (fault_of command_line words)
    pub mistake : IsHelp kind → ⊥

module _ {E : Type 0} (shown : E → Option (List ℕ)) (quiet reported : Watched E) where
  -- An allocation or the output failed, and that is printed, unless a write failed.
  pub record IsReportedFailure : Type 0 where
    pub fault : Fault
    pub failure : IsFailure fault
    pub printed : reported.failed ≡ false → IsReported fault (shown quiet.inner) (shown reported.inner)

  -- What was found is a command with a mistake in its options; the first one is printed, unless a write failed.
  pub record IsReportedMistake (found : Option (List ℕ × List Row)) : Type 0 where
    pub command : List ℕ
    pub mistake : Mistake
    pub fails : FailsAt found command mistake
    pub printed : reported.failed ≡ false
        → IsMistakePrinted (shown quiet.inner) (shown reported.inner) command mistake

  -- What was found is a task, and nothing is printed; or it is no command, or has a mistake in its options.
  abbrev pub IsTaskRead : Option (List ℕ × List Row) → Result Task Status → Type 0
  IsTaskRead found (Ok task) = AsksFor found task × (reported ≡ quiet)
  IsTaskRead found (Err status) = (status ≡ BadInput) × ((found ≡ None) ⊎ IsReportedMistake found)

  -- Help was given, or the output failed.
  abbrev pub IsHelpReported : Status → Type 0
  IsHelpReported Done = reported ≡ quiet
  IsHelpReported Refused = ⊥
  IsHelpReported BadInput = ⊥
  IsHelpReported Failed = IsReportedFailure

-- What is printed if the arguments ask for this: the version, whole. Nothing is stated about help.
abbrev pub IsPrinted : {W : Type 0} → (contents : W → Option (List ℕ)) → (before written : W) → ErrorKind → Type 0
IsPrinted contents before written kind =
    kind ≡ DisplayVersion → Appends (contents before) (contents written) version_line

module _ {W E : Type 0} (contents : W → Option (List ℕ)) (shown : E → Option (List ℕ)) (before written : W)
    (quiet reported : Watched E) where
  -- The version was printed, whole, or the output failed.
  abbrev pub IsVersionReported : Status → Type 0
  IsVersionReported Done = Appends (contents before) (contents written) version_line × (reported ≡ quiet)
  IsVersionReported Refused = ⊥
  IsVersionReported BadInput = ⊥
  IsVersionReported Failed = IsReportedFailure shown quiet reported

  -- What is reported about an error of this kind, by the status.
  abbrev pub IsKindReported : ErrorKind → Status → Type 0
  IsKindReported kind Done = IsHelp kind × IsPrinted contents before written kind × (reported ≡ quiet)
  IsKindReported kind Refused = ⊥
  IsKindReported kind BadInput = (IsHelp kind → ⊥) × (kind ≢ OutOfMemory) × (written ≡ before)
  IsKindReported kind Failed = IsReportedFailure shown quiet reported

-- The command line takes the arguments, but there is a mistake in the options, and that is printed.
pub record AreMistaken {E : Type 0} (shown : E → Option (List ℕ)) (quiet reported : Watched E)
    (words : List (List ℕ)) : Type 0 where
  pub taken : fault_of command_line words ≡ []
  pub mistaken : IsReportedMistake shown quiet reported (subcommand_of command_line words)

module _ (words : List (List ℕ)) {W : Type 0} (contents : W → Option (List ℕ)) (before written : W) where
  -- The arguments ask for help or for the version, and the version was printed.
  pub record AskForHelp : Type 0 where
    pub kind : ErrorKind
    pub among : IsAmong kind (fault_of command_line words)
    pub help : IsHelp kind
    pub printed : IsPrinted contents before written kind

module _ (words : List (List ℕ)) {W E : Type 0} (contents : W → Option (List ℕ)) (shown : E → Option (List ℕ))
    (before written : W) (quiet reported : Watched E) where
  -- Why there is no task, by the status.
  abbrev pub AskForNone : Status → Type 0
  AskForNone Done = AskForHelp words contents before written × (reported ≡ quiet)
  AskForNone Refused = ⊥
  AskForNone BadInput = (AreNotTaken words ⊎ AreMistaken shown quiet reported words) × (written ≡ before)
  AskForNone Failed = IsReportedFailure shown quiet reported

  -- The task that the arguments ask for, and nothing is printed; or why there is none.
  abbrev pub AreRead : Result Task Status → Type 0
  AreRead (Ok task) = Ask words task × (written ≡ before) × (reported ≡ quiet)
  AreRead (Err status) = AskForNone status
