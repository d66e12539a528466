-- The log of a run, and the other files that the run reads or writes.
use Rattle.std.specs.Prelude.{◌⊎◌, ℕ, Bool, true, false, List, Option, Some, None, IfSome, IsSomeAnd, ⊤, option_map}
use Rattle.std.specs.Borrow.{Bor}
use Rattle.opc_cli_tasks.specs.declared.task.Task.{Task}
use Rattle.opc_cli_tasks.specs.declared.task.Task.TheVariants as task
use Rattle.opc_cli_tasks.specs.declared.work.Lines.{Lines}
use Rattle.opc_cli_tasks.specs.declared.work.Lines.TheVariants.{Script, Now}
use Rattle.opc_cli_tasks.specs.declared.work.Work.TheVariants as work
use Rattle.opc_cli.specs.declared.run_files.LoggedRun.{LoggedRun}
use Rattle.opc_cli.specs.declared.run_files.RunFile.{RunFile}
use Rattle.opc_cli.specs.declared.run_files.RunFile.TheVariants as file

-- what the lines of a run are read from
abbrev pub source_of : Lines → RunFile
source_of (Script (Some path)) = file.Script path
source_of (Script None) = file.Input
source_of (Now console) = file.Input

abbrev pub run_logged : (database policy : Option (Bor (List ℕ))) → Lines → (log : Bor (List ℕ)) → LoggedRun
run_logged database policy lines log = record {
  log = log;
  database = option_map (λ path. file.Database path) database;
  policy = option_map (λ path. file.Policy path) policy;
  source = source_of lines;
}

-- the run that a task is, if it has a log
abbrev pub logged_run : Task → Option LoggedRun
logged_run (task.Work path (work.Run policy lines log)) = option_map (run_logged (Some path) policy lines) log
logged_run (task.InMemory policy lines log) = option_map (run_logged None policy lines) log
logged_run other = None

-- Nothing is known about which file of the system is at a path.
abbrev pub unknown_files : List ℕ → RunFile → Bool → Type 0
unknown_files log file is = ⊤

module _ (finds : List ℕ → RunFile → Bool → Type 0) (run : LoggedRun) where
  -- None of its other files was found to be the log,
  abbrev pub IsApart : Type 0
  IsApart = IfSome run.database (λ other. finds run.log.now other false)
      × IfSome run.policy (λ other. finds run.log.now other false) × finds run.log.now run.source false

  -- or one was.
  abbrev pub IsShared : Type 0
  IsShared = IsSomeAnd run.database (λ other. finds run.log.now other true)
      ⊎ (IsSomeAnd run.policy (λ other. finds run.log.now other true) ⊎ finds run.log.now run.source true)
