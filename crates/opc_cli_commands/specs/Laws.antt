-- What the table of commands has, for those who read it.
use Rattle.std.specs.Prelude.{◌≡◌, Bool, true, Ok, is_ok}
use Rattle.std.specs.List.{Any, list_all}
use Rattle.opc_reader_commands.specs.declared.command.Command.{Command}
use Rattle.opc_reader.specs.declared.verb.Verb.{Verb}
use Rattle.opc_reader.specs.Forms.{verb_of}
use Rattle.opc_reader.specs.Reading.{reading}
use Rattle.opc_cli_commands.specs.Commands.{TableForm, forms}

abbrev pub is_command : TableForm → Bool
is_command form = is_ok (reading form.line)

-- each line of the table is a command
abbrev pub EachFormReads : Type 0
EachFormReads = list_all is_command forms ≡ true

-- a line of this verb
abbrev pub IsOfVerb : Verb → TableForm → Type 0
IsOfVerb verb form = (command : Command) × (reading form.line ≡ Ok command) × (verb_of command ≡ verb)

-- each verb has a form
abbrev pub EachVerbHasAForm : Type 0
EachVerbHasAForm = (verb : Verb) → Any (IsOfVerb verb) forms
