-- The footprint of what is named. A larger footprint has this, too.
use Rattle.std.specs.Prelude.{◌≡◌, true, take}
use Rattle.std.specs.List.{AllByRecursion}
use Rattle.opc_board.specs.declared.board.BoardRows.{BoardRows}
use Rattle.opc_board.specs.Invariants.{Name}
use Rattle.opc_board.specs.Footprint.{Footprint, HasLeaving, has_console_of}
use Rattle.opc_board.specs.Units.{is_holder}
use Rattle.opc_state.specs.Loads.{masters}
use Rattle.opc_gate_footprints.specs.declared.keys.BoardKeys.{BoardKeys}
use Rattle.opc_gate_footprints.specs.declared.keys.BoardKeys.TheVariants as keys

-- two masters: at least one of them is not the one that is named
abbrev pub HasMasters : Footprint → BoardRows → Type 0
HasMasters footprint b = AllByRecursion (λ c. has_console_of footprint c ≡ true) (take 2 (masters b))

-- all consoles where a user is logged on
abbrev pub HasConsolesOf : Footprint → BoardRows → Name → Type 0
HasConsolesOf footprint b user = AllByRecursion (λ c. is_holder user c.user ≡ true → has_console_of footprint c ≡ true)
    b.consoles

abbrev pub HasKeys : Footprint → BoardRows → BoardKeys → Type 0
HasKeys footprint b keys.Nothing = Unit {0}
HasKeys footprint b (keys.Unit name) = footprint.units name ≡ true
HasKeys footprint b (keys.Leaving name) = HasLeaving footprint b name
HasKeys footprint b (keys.Device number) = footprint.devices number ≡ true
HasKeys footprint b (keys.Swapped from to) = (footprint.devices from ≡ true) × (footprint.devices to ≡ true)
HasKeys footprint b (keys.Taken number name) = (footprint.devices number ≡ true) × (footprint.units name ≡ true)
HasKeys footprint b (keys.Console name) = footprint.consoles name ≡ true
HasKeys footprint b (keys.Varied name) = (footprint.consoles name ≡ true) × HasMasters footprint b
HasKeys footprint b (keys.Addressed user) = (footprint.units user ≡ true) × HasConsolesOf footprint b user
HasKeys footprint b (keys.Reply id) = footprint.replies id ≡ true
