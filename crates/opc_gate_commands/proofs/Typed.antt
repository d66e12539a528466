-- A command typed at a console that is there and online.
use Rattle.std.proofs.Common.{◌≡◌, ℕ, List, Option, Some, Result, Ok, Err, IfOk, sym, ◌∙◌}
use Rattle.opc_reader_commands.specs.declared.command.Command.{Command}
use Rattle.opc_board.specs.declared.rows.ConsoleRow.{ConsoleRow}
use Rattle.opc_board.specs.Invariants.{console_at}
use Rattle.opc_state.specs.State.{State}
use Rattle.opc_machine.specs.declared.outcome.Outcome.{Outcome}
use Rattle.opc_machine.specs.Commands.{command_in, command_outcome, console_for, need_of, typed}
use Rattle.opc_machine.specs.Effects.{IsOutcome}
use Rattle.opc_gate_rulings.proofs.Named.{found_by_name}

pub typed_at : {E : Type 0} (s : State) (console : Option ConsoleRow) (row : ConsoleRow) (command : Command)
    (text : List ℕ) (r : Result Outcome E)
    → console ≡ Some row → ((name : List ℕ) → console ≡ console_at s.board name → console_for s name ≡ Ok row) → command_in text ≡ Ok command
    → IfOk r (λ o. console_at s.board row.name ≡ Some row → IsOutcome s (typed s row command (need_of s.board command)) o)
    → IfOk r (λ o. (name : List ℕ) → console ≡ console_at s.board name → IsOutcome s (command_outcome s name text) o)
typed_at s console row command text (Ok o) is may reads h = λ name at.
    rw (may name at, reads) (h (found_by_name s.board.consoles name row (sym at ∙ is)))
typed_at s console row command text (Err e) is may reads h = tt
