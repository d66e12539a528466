-- What an answer by tables means for those who ask.
use Rattle.std.specs.Prelude.{◌≡◌, ℕ, List, Ok}
use Rattle.opc_terms.specs.declared.unit_kind.UnitKindAt.TheVariants.{Absent}
use Rattle.opc_reader_commands.specs.declared.command.Command.{Command}
use Rattle.opc_reader.specs.Reading.{reading}
use Rattle.opc_state.specs.State.{State}
use Rattle.opc_machine.specs.Commands.{need_of}
use Rattle.opc_answers.specs.Needed.{need_in}
use Rattle.opc_cli_questions.specs.Kinds.{kind_in, kind_or}

-- Without --as, a question about a command is about what the machine finds that it needs.
abbrev pub NeedsAreTheMachines : Type 0
NeedsAreTheMachines = (s : State) (text : List ℕ) (command : Command) → reading text ≡ Ok command
    → need_in text (kind_or Absent (kind_in s.board (reading text))) ≡ Ok (need_of s.board command)
