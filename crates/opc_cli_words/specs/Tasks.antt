-- What the arguments of the command line ask for, by the matches that `clap` found.
use Rattle.std.specs.Prelude.{
  ◌≡◌,
  ℕ,
  true,
  false,
  List,
  [],
  ◌∷◌,
  Option,
  Some,
  None,
  codes,
  if◌then◌else◌,
}
use Rattle.std.specs.Str.{bytes_eq}
use Rattle.clap.specs.Simple.{subcommand_rows_of}
use Rattle.clap.specs.Walk.{Row, first_of}
use Rattle.clap.specs.declared.parser.matches.ArgMatches.{ArgMatches}
use Rattle.opc_cli_tasks.specs.declared.question.PolicyQuestion.TheVariants as question
use Rattle.opc_cli_tasks.specs.declared.work.Work.TheVariants as work
use Rattle.opc_cli_words.specs.Accounts.{IsAccount, account_checks}
use Rattle.opc_cli_words.specs.Checks.{Check, first_mistake}
use Rattle.opc_cli_words.specs.Options.{
  IsAsk,
  IsComparison,
  IsDecision,
  IsImport,
  IsMayQuestion,
  IsPolicyCheck,
  IsService,
  client_checks,
  decision_checks,
  given,
  import_checks,
  is_set,
  may_checks,
  policy_checks,
  question_checks,
  sheet_checks,
  who_checks,
}
use Rattle.opc_cli_words.specs.Runs.{IsRun, run_checks}
use Rattle.opc_cli_words.specs.Sources.{IsSource, name_of}
use Rattle.opc_cli_tasks.specs.declared.task.Task.{Task}
use Rattle.opc_cli_tasks.specs.declared.task.Task.TheVariants as task
use Rattle.opc_cli_words.specs.declared.mistake.Mistake.{Mistake}
use Rattle.opc_cli_words.specs.declared.mistake.Mistake.TheVariants as wrong

-- In these, `value` is what the arguments give an option, by its name.
module _ (value : List ℕ → Option (List ℕ)) where
  -- the checks of a command's options, in the order in which they are made
  abbrev pub options_of : (command : List ℕ) → List Check
  options_of command =
      if bytes_eq command (codes "explain") then question_checks value (value (codes "command"))
      else if bytes_eq command (codes "run") then run_checks value
      else if bytes_eq command (codes "import") then import_checks value
      else if bytes_eq command (codes "export") then []
      else if bytes_eq command (codes "serve") then client_checks value
      else if bytes_eq command (codes "who") then who_checks value
      else if bytes_eq command (codes "check") then policy_checks value
      else if bytes_eq command (codes "account") then account_checks value
      else if bytes_eq command (codes "digest") then []
      else if bytes_eq command (codes "commands") then []
      else if bytes_eq command (codes "may") then may_checks value
      else if bytes_eq command (codes "diff") then []
      else if bytes_eq command (codes "sheet") then sheet_checks value
      else if bytes_eq command (codes "decide") then decision_checks value
      else (wrong.NoCommand, false) ∷ []

  -- what a command of this name asks for
  abbrev pub IsTaskOf : (command : List ℕ) → Task → Type 0
  IsTaskOf command (task.Ask source (question.Ask ask)) = IsAsk value command source ask
  IsTaskOf command (task.Ask source (question.Check check)) =
      (command ≡ codes "check") × IsPolicyCheck value source check
  IsTaskOf command (task.Ask source (question.May asked)) =
      (command ≡ codes "may") × IsMayQuestion value source asked
  IsTaskOf command (task.Ask source (question.Sheet name)) = (command ≡ codes "sheet")
      × IsSource (value (codes "file")) (value (codes "policy")) (value (codes "db")) source
      × (name.now ≡ name_of source)
  IsTaskOf command (task.Diff asked) = (command ≡ codes "diff") × IsComparison value asked
  IsTaskOf command (task.Account path asked) =
      (command ≡ codes "account") × (path.now ≡ given value (codes "db")) × IsAccount value asked
  IsTaskOf command (task.Work path (work.Run policy lines log)) =
      (command ≡ codes "run") × (value (codes "db") ≡ Some path.now) × IsRun value policy lines log
  IsTaskOf command (task.Work path (work.Import import)) =
      (command ≡ codes "import") × (path.now ≡ given value (codes "db")) × IsImport value import
      × (is_set value (codes "dry-run") ≡ false)
  IsTaskOf command (task.DryRun path import) =
      (command ≡ codes "import") × (path.now ≡ given value (codes "db")) × IsImport value import
      × (is_set value (codes "dry-run") ≡ true)
  IsTaskOf command (task.Work path work.Export) =
      (command ≡ codes "export") × (path.now ≡ given value (codes "db"))
  IsTaskOf command (task.Work path (work.Serve serve)) =
      (command ≡ codes "serve") × (path.now ≡ given value (codes "db")) × IsService value serve
  IsTaskOf command (task.InMemory policy lines log) =
      (command ≡ codes "run") × (value (codes "db") ≡ None) × IsRun value policy lines log
  IsTaskOf command (task.Decide decide) = (command ≡ codes "decide") × IsDecision value decide
  IsTaskOf command task.Digest = command ≡ codes "digest"
  IsTaskOf command task.Commands = command ≡ codes "commands"

-- The arguments are those of a command, with the values of its options in these rows and no mistake in them, and ask
-- for this task.
abbrev pub AsksFor : Option (List ℕ × List Row) → Task → Type 0
AsksFor found task = (command : List ℕ) × (rows : List Row) × (found ≡ Some (command, rows))
    × (first_mistake (options_of (λ name. first_of name rows) command) ≡ None)
    × IsTaskOf (λ name. first_of name rows) command task

-- The arguments are those of a command, and this is the first mistake in its options.
abbrev pub FailsAt : Option (List ℕ × List Row) → (command : List ℕ) → Mistake → Type 0
FailsAt found command mistake = (rows : List Row) × (found ≡ Some (command, rows))
    × (first_mistake (options_of (λ name. first_of name rows) command) ≡ Some mistake)

-- what was found asks for this task
abbrev pub IsTask : ArgMatches → Task → Type 0
IsTask found task = AsksFor (subcommand_rows_of found) task
