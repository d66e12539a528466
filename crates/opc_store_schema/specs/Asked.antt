-- What a call makes of, and finds in, tables that represent a state.
use Rattle.std.specs.Prelude.{◌≡◌, ℕ, List, map, Result, IfOk, OnOk}
use Rattle.sqlite_trees.specs.declared.store.Store.{Ghosts}
use Rattle.sqlite.specs.Order.{Row}
use Rattle.sqlite.specs.State.{HasCleanDisk, Shown}
use Rattle.sqlite.specs.Held.{Held, state}
use Rattle.opc_state.specs.State.{State}
use Rattle.opc_store_schema.specs.Changes.{Becomes}
use Rattle.opc_store_schema.specs.Represented.{Represents}

module _ {S : Type 0} (g : Ghosts S) where
  -- on a clean disk a success returns this of the state that the tables represented before
  abbrev pub Finds : {V E : Type 0} → Held S → Held S → Result V E → (State → V → Type 0) → Type 0
  Finds old new result asked = HasCleanDisk (state g new) → (s : State) → Represents (state g old).now s
      → IfOk result (asked s)

  -- on a clean disk after a success the tables represent what they did, with the change
  abbrev pub Makes : {V E : Type 0} → Held S → Held S → Result V E → (State → State) → Type 0
  Makes old new result change = HasCleanDisk (state g new)
      → OnOk result (Becomes change (state g old).now (state g new).now)

  -- the query gives the rows of these members, in their order
  abbrev pub Determines : {M : Type 0} → (M → Row) → List ℕ → Row → Held S → Held S → List M → Type 0
  Determines row sql params old new members =
      (rows : List Row) → Shown sql params (state g old) (state g new) rows → rows ≡ map row members
