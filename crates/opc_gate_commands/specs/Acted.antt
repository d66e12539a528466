-- What commands and events make of the board, as edits of the state.
use Rattle.std.specs.Prelude.{◌≡◌, ℕ, List, [], Some, filter}
use Rattle.opc_reader_commands.specs.declared.command.Command.{Command}
use Rattle.opc_terms.specs.declared.rule.Rule.{Rule}
use Rattle.opc_board.specs.declared.board.BoardRows.{BoardRows}
use Rattle.opc_board.specs.declared.line.Line.{Line}
use Rattle.opc_board.specs.declared.rows.ConsoleRow.{ConsoleRow}
use Rattle.opc_board.specs.Effect.{effect}
use Rattle.opc_board.specs.Outcome.{BoardOutcome, done_with}
use Rattle.opc_state.specs.declared.change.Edit.{Edit}
use Rattle.opc_state.specs.State.{State}
use Rattle.opc_state.specs.Changes.{all_edited}
use Rattle.opc_gate_footprints.specs.Loading.{IsConsoleFootprint}
use Rattle.opc_machine.specs.Commands.{acted}
use Rattle.opc_machine.specs.Outcome.{StateOutcome, ◌>>=◌, does}
use Rattle.opc_machine.specs.Rulings.{shown}

-- What the board makes of a command or an event is made of the state by these edits, and no more.
pub record IsActed (s : State) (o : BoardOutcome) (edits : List Edit) (lines : List Line) : Type 0 where
  pub board : BoardRows
  pub makes : o ≡ done_with board lines
  pub becomes : all_edited edits s ≡ record s { board = board }
  pub idle : all_edited edits s ≡ s → edits ≡ []

-- There is nothing to write for a logon or a logoff at a console, by its footprint, if the state stays as it is.
abbrev pub AreNoneWhereSame : List ℕ → BoardRows → List Edit → Type 0
AreNoneWhereSame console board edits = (s : State) → IsConsoleFootprint s console board → all_edited edits s ≡ s
    → edits ≡ []

-- The outcome of a command, if a rule allows it: it acts on the board, and gives those of its lines that may be shown.
abbrev pub allowed_command : State → ConsoleRow → Command → Rule → StateOutcome
allowed_command s c command rule = acted (Some rule) (effect s.board command c.name) >>=
    λ act. does (record s { board = act.board }) (filter (shown s c) act.lines) (Some rule)
