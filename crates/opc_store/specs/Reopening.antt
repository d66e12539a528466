-- What a store holds if it was closed and its files are opened again, over any disk.
use Rattle.sqlite_disk.specs.declared.Disk as disk
use Rattle.sqlite_store.specs.declared.store.FileStore.{FileStore}
use Rattle.sqlite.specs.Files.{over_files, file_state}
use Rattle.sqlite.specs.Held.{Held}
use Rattle.opc_state.specs.State.{State}
use Rattle.opc_store.specs.Opening.{LeavesItself}
use Rattle.opc_store.specs.StoreTables.{IsSure, RepresentsIfOpen}
use Rattle.opc_store_schema.specs.Represented.{Represents}

pub record IsFoundAgain {D : Type 0} {g : disk.Ghosts D} (closed again : Held (FileStore D g)) : Type 0 where
  -- if the disk returned to the opening what was written, it did so before
  pub sure : IsSure over_files again → IsSure over_files closed
  -- the state that was committed last is found, and so is the state that the tables represented when they were closed
  pub committed : IsSure over_files again → (s : State) → Represents (file_state closed).committed s
      → Represents (file_state again).now s
  pub represented : IsSure over_files again → (s : State) → RepresentsIfOpen over_files closed s
      → Represents (file_state again).now s
  -- and a crash leaves what is found
  pub settled : LeavesItself (file_state again)
