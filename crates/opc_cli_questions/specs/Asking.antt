-- What helps somebody whose question has no answer: the nearest name, verb or operands.
use Rattle.std.specs.Prelude.{◌≡◌, ◌++◌, ⊤, ℕ, List, [], ◌∷◌, Option, Some, None, codes, string_bytes}
use Rattle.std.specs.List.{filter_map}
use Rattle.opc_terms.specs.declared.fault.Fault.{Fault}
use Rattle.opc_terms.specs.declared.fault.Fault.TheVariants.{BadOperand, Missing, NoConsole, UnknownVerb}
use Rattle.opc_policy_members.specs.declared.row.Row.{Row}
use Rattle.opc_policy_members.specs.declared.row.Row.TheVariants as rows
use Rattle.opc_cli_commands.specs.Nearest.{nearest}
use Rattle.opc_cli_commands.specs.Hints.{hint_about, question}
use Rattle.opc_answers.specs.declared.question.About.{About}
use Rattle.opc_answers.specs.declared.question.About.TheVariants as about
use Rattle.opc_answers.specs.declared.question.Asks.{Asks}
use Rattle.opc_answers.specs.declared.question.Asks.TheVariants as asks
use Rattle.opc_answers.specs.declared.question.Question.{Question}
use Rattle.opc_cli_failures.specs.declared.failure.Place.{Place}
use Rattle.opc_cli_failures.specs.declared.reason.Reason.{Reason}
use Rattle.opc_cli_failures.specs.declared.reason.Reason.TheVariants as reason

abbrev pub user_in : Row → Option (List ℕ)
user_in (rows.User user) = Some user.id
user_in row = None

abbrev pub console_in : Row → Option (List ℕ)
console_in (rows.Console name auth mode) = Some name
console_in row = None

-- the names of rows
abbrev pub users_in : List Row → List (List ℕ)
users_in rows = filter_map user_in rows

abbrev pub consoles_in : List Row → List (List ℕ)
consoles_in rows = filter_map console_in rows

-- a name that the rows lack, with the nearest that they have
abbrev pub no_user : List Row → List ℕ → List ℕ
no_user rows user = codes "no such user" ++ question (nearest user (users_in rows))

abbrev pub no_console : List Row → List ℕ → List ℕ
no_console rows console = codes "no such console" ++ question (nearest console (consoles_in rows))

abbrev pub command_help : About → Option (List ℕ)
command_help (about.Command text kind) = hint_about text.now
command_help other = None

abbrev pub user_help : List Row → Asks → Option (List ℕ)
user_help rows (asks.Why (Some user) levels) = Some (no_user rows user)
user_help rows other = None

abbrev pub console_help : List Row → Option (List ℕ) → Option (List ℕ)
console_help rows (Some console) = Some (no_console rows console)
console_help rows None = None

-- what helps, by the fault that a question is answered with
abbrev pub help_with : List Row → Question → Fault → Option (List ℕ)
help_with rows q (UnknownVerb from to) = command_help q.about
help_with rows q (BadOperand from to) = command_help q.about
help_with rows q (Missing name) = user_help rows q.asks
help_with rows q NoConsole = console_help rows q.console
help_with rows q fault = None

-- Nothing is said, or what helps.
abbrev pub Helps : List Row → Question → Fault → Option (Place × Reason) → Type 0
Helps rows q fault None = ⊤
Helps rows q fault (Some (place, reason.Hint text)) = help_with rows q fault ≡ Some (string_bytes text)
Helps rows q fault (Some (place, other)) = ⊥
