-- The command line of the program, as `clap` has it: the commands, and the options of each.
use Rattle.std.specs.Prelude.{◌≡◌, ℕ, true, false, List, [], ◌∷◌, ◌++◌, Some, codes}
use Rattle.clap.specs.Simple.{App, Shape, app_of, new_rule, new_shape}
use Rattle.clap.specs.Walk.{Rule}
use Rattle.clap.specs.declared.builder.action.ArgAction.TheVariants.{Set, SetTrue}
use Rattle.clap.specs.declared.builder.command.Command.{Command}
use Rattle.clap.specs.declared.builder.command.Command.TheViews.{out-Command}

-- an argument of this name, which is a value alone
abbrev pub positional : List ℕ → Rule
positional name = record (new_rule name) { action = Some Set; value_names = 1 }

-- an option of this name, which takes one value
abbrev pub valued : List ℕ → Rule
valued name = record (positional name) { long = Some name }

-- one that is required
abbrev pub needed : List ℕ → Rule
needed name = record (valued name) { required = true }

-- one that has this default value
abbrev pub preset : List ℕ → List ℕ → Rule
preset name value = record (valued name) { defaults = value ∷ [] }

-- one without a value
abbrev pub flag : List ℕ → Rule
flag name = record (new_rule name) { long = Some name; action = Some SetTrue }

-- a command of this name, with these options
abbrev pub command : List ℕ → List Rule → Shape
command name options = record (new_shape name) { rules = options }

-- of `explain` and `who`
abbrev pub question_options : List Rule
question_options =
    valued (codes "command") ∷ valued (codes "as") ∷ valued (codes "resource") ∷ valued (codes "level")
    ∷ preset (codes "class") (codes "OPERCMDS") ∷ valued (codes "console") ∷ flag (codes "json") ∷ []

-- the source of a policy
abbrev pub source_options : List Rule
source_options = valued (codes "policy") ∷ valued (codes "db") ∷ positional (codes "file") ∷ []

abbrev pub explain_options : List Rule
explain_options = needed (codes "user") ∷ question_options ++ flag (codes "why") ∷ source_options

abbrev pub run_options : List Rule
run_options =
    valued (codes "db") ∷ valued (codes "policy") ∷ flag (codes "now") ∷ valued (codes "console")
    ∷ valued (codes "log") ∷ positional (codes "file") ∷ []

abbrev pub import_options : List Rule
import_options =
    needed (codes "db") ∷ needed (codes "batch") ∷ valued (codes "console") ∷ flag (codes "dry-run")
    ∷ positional (codes "file") ∷ []

abbrev pub export_options : List Rule
export_options = needed (codes "db") ∷ []

abbrev pub address_options : List Rule
address_options =
    valued (codes "port") ∷ valued (codes "socket") ∷ valued (codes "socket-mode") ∷ flag (codes "strict") ∷ []

abbrev pub client_options : List Rule
client_options =
    address_options
    ++ preset (codes "count") (codes "1000000") ∷ preset (codes "timeout") (codes "30") ∷ flag (codes "log") ∷ []

abbrev pub serve_options : List Rule
serve_options = needed (codes "db") ∷ client_options ++ valued (codes "policies") ∷ []

abbrev pub decide_options : List Rule
decide_options = needed (codes "policy") ∷ client_options ++ valued (codes "base") ∷ []

abbrev pub who_options : List Rule
who_options = question_options ++ flag (codes "allowed") ∷ source_options

abbrev pub may_options : List Rule
may_options =
    needed (codes "user") ∷ valued (codes "console") ∷ flag (codes "allowed") ∷ flag (codes "json") ∷ source_options

-- a value alone that is required
abbrev pub needed_positional : List ℕ → Rule
needed_positional name = record (positional name) { required = true }

abbrev pub diff_options : List Rule
diff_options = needed_positional (codes "old") ∷ needed_positional (codes "new") ∷ flag (codes "json") ∷ []

abbrev pub check_options : List Rule
check_options = source_options ++ valued (codes "allow") ∷ flag (codes "json") ∷ []

abbrev pub row_options : List Rule
row_options =
    needed (codes "db") ∷ valued (codes "from") ∷ valued (codes "last") ∷ valued (codes "count") ∷ []

abbrev pub account_options : List Rule
account_options =
    row_options ++ valued (codes "since") ∷ valued (codes "until") ∷ valued (codes "user") ∷ valued (codes "console")
    ∷ valued (codes "code") ∷ flag (codes "json") ∷ []

abbrev pub commands : List Shape
commands =
    command (codes "explain") explain_options
    ∷ command (codes "run") run_options
    ∷ command (codes "import") import_options
    ∷ command (codes "export") export_options
    ∷ command (codes "serve") serve_options
    ∷ command (codes "who") who_options
    ∷ command (codes "check") check_options
    ∷ command (codes "account") account_options
    ∷ command (codes "digest") []
    ∷ command (codes "commands") []
    ∷ command (codes "may") may_options
    ∷ command (codes "diff") diff_options
    ∷ command (codes "sheet") source_options
    ∷ command (codes "decide") decide_options
    ∷ []

-- the program before its commands: it has a version, a command is required, missing arguments are answered with the
-- help, and the program's own name is no argument
abbrev pub program : App
program = record {
  top = record (new_shape (codes "opcmds")) {
    has_version = true;
    arg_required_else_help = true;
    subcommand_required = true;
    no_binary_name = true;
  };
  subs = [];
}

-- the whole command line
abbrev pub command_line : App
command_line = record { top = record program.top { is_leaf = false }; subs = commands }

-- The command was built with this name and these options, none of which counts for other commands.
pub record IsCommand (built : Command) (name : List ℕ) (options : List Rule) : Type 0 where
  pub app : app_of built ≡ record { top = command name options; subs = [] }
  pub alone : (out-Command built).has_globals ≡ false
