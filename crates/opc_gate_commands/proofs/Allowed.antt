-- A command that a rule allows, as an outcome of the machine.
use Rattle.std.proofs.Common.{◌≡◌, List, Some, Result, Ok, Err, IfOk, filter, sym, ap, ◌∙◌}
use Rattle.opc_board.specs.declared.fault.BoardFault.{BoardFault}
use Rattle.opc_board.specs.declared.line.Line.{Line}
use Rattle.opc_board.specs.declared.rows.ConsoleRow.{ConsoleRow}
use Rattle.opc_board.specs.Effect.{effect}
use Rattle.opc_terms.specs.declared.fault.Fault.{Fault}
use Rattle.opc_terms.specs.declared.need.Need.{Need}
use Rattle.opc_terms.specs.declared.rule.Rule.{Rule}
use Rattle.opc_policy.specs.declared.ruling.Ruling.TheVariants.{Allowed}
use Rattle.opc_reader_commands.specs.declared.command.Command.{Command}
use Rattle.opc_state.specs.declared.change.Edit.{Edit}
use Rattle.opc_state.specs.State.{State}
use Rattle.opc_state.specs.Changes.{all_edited}
use Rattle.opc_machine.specs.Commands.{acted, allowed, board_command}
use Rattle.opc_machine.specs.Faults.{board_fault}
use Rattle.opc_machine.specs.Outcome.{◌>>=◌, does}
use Rattle.opc_machine.specs.Rulings.{ruling, shown}
use Rattle.opc_gate_commands.specs.Acted.{IsActed, allowed_command}

-- it acts: the lines are those that may be shown
pub acted_outcome : (s : State) (c : ConsoleRow) (command : Command) (rule : Rule) (edits : List Edit)
    (lines given : List Line) → IsActed s (effect s.board command c.name) edits lines → given ≡ filter (shown s c) lines
    → allowed_command s c command rule ≡ Ok (record { state = all_edited edits s; lines = given; rule = Some rule })
acted_outcome s c command rule edits lines given acts shows =
    ap (λ o. acted (Some rule) o >>= λ act. does (record s { board = act.board }) (filter (shown s c) act.lines) (Some rule)) acts.makes
    ∙ ap (λ t. does t (filter (shown s c) lines) (Some rule)) (sym acts.becomes)
    ∙ ap (λ ls. does (all_edited edits s) ls (Some rule)) (sym shows)

-- the board refuses it
pub refused_outcome : (s : State) (c : ConsoleRow) (command : Command) (rule : Rule) (fault : BoardFault) (why : Fault)
    → effect s.board command c.name ≡ Err fault → why ≡ board_fault fault
    → allowed_command s c command rule ≡ Err (record { fault = why; rule = Some rule })
refused_outcome s c command rule fault why refuses is =
    ap (λ o. acted (Some rule) o >>= λ act. does (record s { board = act.board }) (filter (shown s c) act.lines) (Some rule)) refuses
    ∙ ap (λ f. Err (record { fault = f; rule = Some rule })) (sym is)

-- the outcome of a command is its outcome by the rule that allows it
pub by_the_rule : (s : State) (c : ConsoleRow) (command : Command) (need : Need) (rule : Rule)
    → ruling s c need ≡ Allowed rule → board_command s c command need ≡ allowed_command s c command rule
by_the_rule s c command need rule allows =
    ap (λ r. allowed r >>= λ why. acted (Some why) (effect s.board command c.name) >>= λ act. does
    (record s { board = act.board }) (filter (shown s c) act.lines) (Some why)) allows

-- what follows from a success
pub if_ok : {V E : Type 0} {P Q : V → Type 0} (r : Result V E) → ((v : V) → P v → Q v) → IfOk r P → IfOk r Q
if_ok (Ok v) follows h = follows v h
if_ok (Err e) follows h = tt
