-- The resources about which the machine asks in class OPERCMDS; only profiles whose patterns are met decide on them.
use Rattle.std.specs.Prelude.{◌≡◌, ℕ, List, Ok, Some, None, ⊤}
use Rattle.opc_names.specs.declared.class.Class.TheVariants.{Opercmds}
use Rattle.opc_names.specs.Names.{name_fault, unit_rule, console_rule}
use Rattle.opc_terms.specs.declared.need.Need.{Need}
use Rattle.opc_policy_members.specs.declared.profile.Profile.{Profile}
use Rattle.opc_reader_commands.specs.declared.command.Command.{Command}
use Rattle.opc_board.specs.declared.board.BoardRows.{BoardRows}
use Rattle.opc_board.specs.declared.line.Item.{Item}
use Rattle.opc_board.specs.declared.line.Item.TheVariants as item
use Rattle.opc_board.specs.Invariants.{kind_at}
use Rattle.opc_state.specs.State.{State, deciding_in}
use Rattle.opc_machine.specs.Commands.{command_in, need_of}
use Rattle.opc_machine.specs.Rulings.{need_to_show}
use Rattle.opc_check_reach.specs.Reach.{IsKind, IsAsked, IsMet}

-- the members of started tasks have names of units
abbrev pub HasKinds : BoardRows → Type 0
HasKinds b = (name : List ℕ) → IsKind (kind_at b name)

-- What the command that a line is needs, on any board, counts.
abbrev pub CommandsAskSo : Type 0
CommandsAskSo = (b : BoardRows) (line : List ℕ) (c : Command) (n : Need) → HasKinds b → command_in line ≡ Ok c
    → need_of b c ≡ Some n → IsAsked n.resource

-- a line is about nothing, about a unit's name or about a console's
abbrev pub IsItem : Item → Type 0
IsItem item.Plain = ⊤
IsItem (item.Unit name) = name_fault unit_rule name ≡ None
IsItem (item.Console name) = name_fault console_rule name ≡ None

-- What showing a line needs counts.
abbrev pub LinesAskSo : Type 0
LinesAskSo = (about : Item) (n : Need) → IsItem about → need_to_show about ≡ Some n → IsAsked n.resource

-- A profile that decides such a question is met,
abbrev pub DecidersAreMet : Type 0
DecidersAreMet = (s : State) (resource : List ℕ) (p : Profile) → IsAsked resource
    → deciding_in s.policy Opercmds resource ≡ Some p → IsMet p.pattern

-- so one that decides a command is,
abbrev pub DecidersOfCommandsAreMet : Type 0
DecidersOfCommandsAreMet = (s : State) (line : List ℕ) (c : Command) (n : Need) (p : Profile) → HasKinds s.board
    → command_in line ≡ Ok c → need_of s.board c ≡ Some n → deciding_in s.policy Opercmds n.resource ≡ Some p
    → IsMet p.pattern

-- and so is one that decides whether a line is shown.
abbrev pub DecidersOfLinesAreMet : Type 0
DecidersOfLinesAreMet = (s : State) (about : Item) (n : Need) (p : Profile) → IsItem about
    → need_to_show about ≡ Some n → deciding_in s.policy Opercmds n.resource ≡ Some p → IsMet p.pattern
