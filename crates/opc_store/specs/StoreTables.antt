-- What a connection is for the machine that keeps its state in it.
use Rattle.std.specs.Prelude.{◌≡◌, IsTrue}
use Rattle.sqlite_trees.specs.declared.store.Store.{Ghosts}
use Rattle.sqlite_trees.specs.Tree.{Trees}
use Rattle.sqlite.specs.Held.{Held, state}
use Rattle.sqlite.specs.State.{HasCleanDisk}
use Rattle.opc_state.specs.Meaning.{Meaning}
use Rattle.opc_state.specs.State.{State}
use Rattle.opc_store_schema.specs.Represented.{Represents, AreTablesOf}

module _ {S : Type 0} (g : Ghosts S) where
  -- the tables represent the state, as long as the connection is open
  abbrev pub RepresentsIfOpen : Held S → State → Type 0
  RepresentsIfOpen h s = IsTrue (state g h).is_open → Represents (state g h).now s

  -- a fault of the disk has closed it
  abbrev pub IsShut : Held S → Type 0
  IsShut h = IsTrue (state g h).is_open → ⊥

  -- the disk has returned what was written, and nobody else writes the tables
  abbrev pub IsSure : Held S → Type 0
  IsSure h = HasCleanDisk (state g h)

  -- A crash may leave tables of no other state, if the disk returns what was written: tables of this one, or of none.
  -- So what is no state counts as each, and if a crash can leave only one state, it leaves tables of that.
  abbrev pub MayLeave : Held S → State → Type 0
  MayLeave h s = IsSure h × (trees : Trees) × (state g h).may_leave trees × ((t : State) → AreTablesOf trees t → t ≡ s)

  -- what the tables mean
  abbrev pub store_meaning : Meaning (Held S)
  store_meaning = record { represents = RepresentsIfOpen; is_sure = IsSure; may_leave = MayLeave }
