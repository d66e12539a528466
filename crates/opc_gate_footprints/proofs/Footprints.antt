-- The parts of a state's board that are loaded for a command, an event, a logon or a logoff.
use Rattle.std.proofs.Common.{◌≡◌, true, take, Result, Ok, Err, IfOk, ◌∙◌}
use Rattle.opc_reader_commands.specs.declared.command.Command.{Command}
use Rattle.opc_rows.proofs.Orders.{all_weaker}
use Rattle.opc_board.specs.declared.board.BoardRows.{BoardRows}
use Rattle.opc_board.specs.declared.event.Event.{Event}
use Rattle.opc_board.specs.Enough.{no_rows}
use Rattle.opc_board.specs.Invariants.{Name}
use Rattle.opc_board.specs.History.{without_history}
use Rattle.opc_board.specs.Footprint.{IsInOrder, Footprint, IsFootprintOf, IsFootprintOfEvent, has_console_of, has_device_of}
use Rattle.opc_board.specs.Units.{is_holder}
use Rattle.opc_state.specs.Invariants.{IsKeyed}
use Rattle.opc_state.specs.Loads.{masters}
use Rattle.opc_state.specs.State.{State}
use Rattle.opc_gate_footprints.specs.declared.keys.BoardKeys.{BoardKeys}
use Rattle.opc_gate_footprints.specs.declared.keys.BoardKeys.TheVariants as keys
use Rattle.opc_gate_footprints.specs.BoardKeys.{HasKeys}
use Rattle.opc_gate_footprints.specs.Loading.{HasLoaded, LoadsMore, IsConsoleFootprint, IsEventFootprint, IsPart, IsFootprint, IsWithin}

-- what follows from a success, and from its value
pub if_ok : {V E : Type 0} {P Q : V → Type 0} (r : Result V E) → ((v : V) → P v → Q v) → IfOk r P → IfOk r Q
if_ok (Ok v) follows h = follows v h
if_ok (Err e) follows h = tt

live_order : (b : BoardRows) → IsInOrder b → IsInOrder (without_history b)
live_order b order = record { units = order.units; devices = order.devices; consoles = order.consoles; replies = order.replies }

-- a larger footprint has what is named, too
named_within : (x y : Footprint) → IsWithin x y → (b : BoardRows) (what : BoardKeys) → HasKeys x b what → HasKeys y b what
named_within x y within b keys.Nothing sees = tt
named_within x y within b (keys.Unit name) sees = within.units name sees
named_within x y within b (keys.Leaving name) sees = (
  within.units name sees.0,
  all_weaker (λ d. is_holder name d.unit ≡ true → has_device_of x d ≡ true)
      (λ d. is_holder name d.unit ≡ true → has_device_of y d ≡ true) (λ d h held. within.devices d.number (h held))
      b.devices sees.1,
)
named_within x y within b (keys.Device number) sees = within.devices number sees
named_within x y within b (keys.Swapped from to) sees = (within.devices from sees.0, within.devices to sees.1)
named_within x y within b (keys.Taken number name) sees = (within.devices number sees.0, within.units name sees.1)
named_within x y within b (keys.Console name) sees = within.consoles name sees
named_within x y within b (keys.Varied name) sees = (
  within.consoles name sees.0,
  all_weaker (λ c. has_console_of x c ≡ true) (λ c. has_console_of y c ≡ true)
      (λ c h. within.consoles c.name h) (take 2 (masters b)) sees.1,
)
named_within x y within b (keys.Addressed user) sees = (
  within.units user sees.0,
  all_weaker (λ c. is_holder user c.user ≡ true → has_console_of x c ≡ true)
      (λ c. is_holder user c.user ≡ true → has_console_of y c ≡ true) (λ c h on. within.consoles c.name (h on))
      b.consoles sees.1,
)
named_within x y within b (keys.Reply id) sees = within.replies id sees

module _ (s : State) where
  abbrev HasNamed : BoardRows → BoardKeys → Type 0
  HasNamed part what = IsKeyed s × HasLoaded s no_rows part (λ footprint. HasKeys footprint (without_history s.board) what)

  pub footprint : (command : Command) (console : Name) (what : BoardKeys) (part full board : BoardRows)
      → ((footprint : Footprint) → (b : BoardRows) → (at : Name) → IsInOrder b → HasKeys footprint b what
      → footprint.consoles at ≡ true → IsFootprintOf footprint b command at)
      → HasNamed part what → LoadsMore s part full (λ footprint. footprint.consoles console ≡ true) → board ≡ full → IsFootprint s command console board
  footprint command console what part full board names has grows is =
      let grown = grows has.0 has.1.more has.1.is in
      record {
        footprint = grown.more;
        order = has.0.board;
        sees = names grown.more (without_history s.board) console (live_order s.board has.0.board)
            (named_within has.1.more grown.more grown.within (without_history s.board) what has.1.sees) grown.sees;
        is = is ∙ grown.is;
      }

  pub event_footprint : (event : Event) (what : BoardKeys) (part board : BoardRows)
      → ((footprint : Footprint) → (b : BoardRows) → HasKeys footprint b what → IsFootprintOfEvent footprint b event)
      → HasNamed part what → board ≡ part → IsEventFootprint s event board
  event_footprint event what part board names has is = record {
    footprint = has.1.more;
    order = has.0.board;
    sees = names has.1.more (without_history s.board) has.1.sees;
    is = is ∙ has.1.is;
  }

  pub console_footprint : (console : Name) (part full board : BoardRows) → IsKeyed s → IsPart s no_rows part
      → LoadsMore s part full (λ footprint. footprint.consoles console ≡ true) → board ≡ full
      → IsConsoleFootprint s console board
  console_footprint console part full board keyed none grows is =
      let grown = grows keyed no_rows none in
      record { footprint = grown.more; order = keyed.board; sees = grown.sees; is = is ∙ grown.is }
