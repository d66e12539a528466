-- The part of a state's board that is loaded for a command, an event, a logon or a logoff.
use Rattle.std.specs.Prelude.{◌≡◌, ℕ, true, Option, Some, IfSome}
use Rattle.opc_reader_commands.specs.declared.command.Command.{Command}
use Rattle.opc_board.specs.declared.board.BoardRows.{BoardRows}
use Rattle.opc_board.specs.declared.event.Event.{Event}
use Rattle.opc_board.specs.declared.rows.UnitRow.{UnitRow}
use Rattle.opc_board.specs.Enough.{no_rows}
use Rattle.opc_board.specs.Invariants.{Name, unit_at}
use Rattle.opc_board.specs.History.{without_history}
use Rattle.opc_board.specs.Footprint.{IsInOrder, Footprint, IsFootprintOf, IsFootprintOfEvent, only}
use Rattle.opc_state.specs.Invariants.{IsKeyed}
use Rattle.opc_state.specs.State.{State}

-- the rows of a state's board at some names and numbers, with empty histories
abbrev pub IsPart : State → Footprint → BoardRows → Type 0
IsPart s footprint part = part ≡ only footprint (without_history s.board)

-- The board is a part of the state's that has the footprint of the command.
pub record IsFootprint (s : State) (command : Command) (console : Name) (part : BoardRows) : Type 0 where
  pub footprint : Footprint
  pub order : IsInOrder s.board
  pub sees : IsFootprintOf footprint (without_history s.board) command console
  pub is : IsPart s footprint part

pub record IsEventFootprint (s : State) (event : Event) (part : BoardRows) : Type 0 where
  pub footprint : Footprint
  pub order : IsInOrder s.board
  pub sees : IsFootprintOfEvent footprint (without_history s.board) event
  pub is : IsPart s footprint part

-- The footprint of a logon or a logoff is its console.
pub record IsConsoleFootprint (s : State) (console : Name) (part : BoardRows) : Type 0 where
  pub footprint : Footprint
  pub order : IsInOrder s.board
  pub sees : footprint.consoles console ≡ true
  pub is : IsPart s footprint part

-- a unit that is loaded already, if one is, is the one of its name
abbrev pub IsUnitOf : State → Option UnitRow → Type 0
IsUnitOf s unit = IfSome unit (λ u. unit_at s.board u.name ≡ Some u)

-- what is loaded stays loaded
pub record IsWithin (footprint more : Footprint) : Type 0 where
  pub units : (name : Name) → footprint.units name ≡ true → more.units name ≡ true
  pub devices : (number : Name) → footprint.devices number ≡ true → more.devices number ≡ true
  pub consoles : (name : Name) → footprint.consoles name ≡ true → more.consoles name ≡ true
  pub replies : (id : ℕ) → footprint.replies id ≡ true → more.replies id ≡ true

-- A part of a state's board that has more than before, and this.
pub record HasLoaded (s : State) (footprint : Footprint) (part : BoardRows) (what : Footprint → Type 0) : Type 0 where
  pub more : Footprint
  pub within : IsWithin footprint more
  pub is : IsPart s more part
  pub sees : what more

-- one more load: a part of a state's board becomes one that has this, too
abbrev pub LoadsMore : State → BoardRows → BoardRows → (Footprint → Type 0) → Type 0
LoadsMore s old new what = IsKeyed s → (footprint : Footprint) → IsPart s footprint old → HasLoaded s footprint new what

-- the first load: of an empty part it makes one that has this
abbrev pub LoadsFirst : State → BoardRows → BoardRows → (Footprint → Type 0) → Type 0
LoadsFirst s old new what = IsKeyed s → IsPart s no_rows old → HasLoaded s no_rows new what
