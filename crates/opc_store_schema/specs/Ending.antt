-- How a transaction ends.
use Rattle.std.specs.Prelude.{◌≡◌, IsTrue, Result, OnErr, OnOk}
use Rattle.sqlite_trees.specs.declared.store.Store.{Ghosts}
use Rattle.sqlite.specs.Held.{Held, state}
use Rattle.sqlite.specs.State.{HasCleanDisk}

module _ {S : Type 0} (g : Ghosts S) where
  -- after a fault an open database is as it was
  abbrev pub IsUndone : {V E : Type 0} → Held S → Held S → Result V E → Type 0
  IsUndone old new result = HasCleanDisk (state g new) → IsTrue (state g new).is_open
      → OnErr result ((state g new).now ≡ (state g old).now)

  -- after a success it is open, and all that it holds is committed
  abbrev pub IsCommitted : {V E : Type 0} → Held S → Result V E → Type 0
  IsCommitted new result = HasCleanDisk (state g new)
      → OnOk result (IsTrue (state g new).is_open × ((state g new).committed ≡ (state g new).now))
