-- What a board keeps of the past, and that commands and events only add to it.
use Rattle.std.specs.Prelude.{◌≡◌, ℕ, List, [], ◌++◌, Ok, Err}
use Rattle.opc_reader_commands.specs.declared.command.Command.{Command}
use Rattle.opc_board.specs.declared.board.BoardRows.{BoardRows}
use Rattle.opc_board.specs.declared.rows.ReplyRow.{ReplyRow}
use Rattle.opc_board.specs.declared.rows.MessageRow.{MessageRow}
use Rattle.opc_board.specs.declared.event.Event.{Event}
use Rattle.opc_board.specs.Invariants.{Name}
use Rattle.opc_board.specs.Outcome.{BoardOutcome}
use Rattle.opc_board.specs.Effect.{effect, event_effect}

-- answered replies, log lines and messages, the oldest first
pub record History : Type 0 where
  pub answered : List ReplyRow
  pub log : List (List ℕ)
  pub messages : List MessageRow

abbrev pub history_of : BoardRows → History
history_of b = record { answered = b.answered; log = b.log; messages = b.messages }

-- the board with empty histories
abbrev pub without_history : BoardRows → BoardRows
without_history b = record b { answered = []; log = []; messages = [] }

-- the board with this history before its own, and so the outcome
abbrev pub after : History → BoardRows → BoardRows
after past b = record b {
  answered = past.answered ++ b.answered;
  log = past.log ++ b.log;
  messages = past.messages ++ b.messages;
}

abbrev pub outcome_after : History → BoardOutcome → BoardOutcome
outcome_after past (Ok d) = Ok (record { board = after past d.board; lines = d.lines })
outcome_after past (Err fault) = Err fault

-- The effect of a command on a board is its effect on the same board with empty histories, with what is new after
-- the old; and so is that of an event.
abbrev pub CommandsOnlyAddToHistory : Type 0
CommandsOnlyAddToHistory = (b : BoardRows) (command : Command) (console : Name)
    → effect b command console ≡ outcome_after (history_of b) (effect (without_history b) command console)

abbrev pub EventsOnlyAddToHistory : Type 0
EventsOnlyAddToHistory = (b : BoardRows) (event : Event)
    → event_effect b event ≡ outcome_after (history_of b) (event_effect (without_history b) event)

-- The same with any history put before that of a board.
abbrev pub CommandsDoTheSameAfter : Type 0
CommandsDoTheSameAfter = (past : History) (b : BoardRows) (command : Command) (console : Name)
    → effect (after past b) command console ≡ outcome_after past (effect b command console)

abbrev pub EventsDoTheSameAfter : Type 0
EventsDoTheSameAfter = (past : History) (b : BoardRows) (event : Event)
    → event_effect (after past b) event ≡ outcome_after past (event_effect b event)
