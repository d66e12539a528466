-- Why a database is not opened to be read.
use Rattle.std.specs.Prelude.{◌≡◌, ◌≢◌, ◌⊎◌, ℕ, Bool, false, [], IsTrue, IsFalse}
use Rattle.sqlite_disk.specs.declared.Disk as disk
use Rattle.sqlite_store.specs.declared.store.FileStore.{FileStore}
use Rattle.sqlite_trees.specs.Tree.{Trees}
use Rattle.sqlite_trees.specs.declared.store.Store.{Ghosts}
use Rattle.sqlite.specs.Held.{Held, state}
use Rattle.sqlite.specs.Recovery.{Image}
use Rattle.sqlite.specs.Start.{FindsIn}
use Rattle.sqlite.specs.State.{State, FailsToQuery, HasCleanDisk, IsLive, Opens, Survives}
use Rattle.sqlite.specs.Files.{over_files, file_state, HoldsDatabase}
use Rattle.sqlite.specs.declared.error.Error.{Error}
use Rattle.opc_state.specs.State.{State as TheState}
use Rattle.opc_store_file.specs.Copies.{is_blank}
use Rattle.opc_store.specs.declared.opening.OpenFault.{OpenFault}
use Rattle.opc_store.specs.declared.opening.OpenFault.TheVariants as fault
use Rattle.opc_store.specs.Opening.{FailsToOpen, LeavesItself, unasked}
use Rattle.opc_store_schema.specs.Represented.{AreTablesOf, Represents, made_version}
use Rattle.opc_store_schema.specs.Ours.{has_our_name, NamesVersion, version_query}

-- Files were opened to be read: what they held is what the tables represent, and a crash leaves that. The database file
-- had more than one byte.
pub record IsFoundAt {D : Type 0} {g : disk.Ghosts D} (image : Image) (opened : Held (FileStore D g)) : Type 0 where
  pub found : HasCleanDisk (file_state opened) → (db : Trees) → HoldsDatabase image db → (s : TheState)
      → AreTablesOf db s → Represents (file_state opened).now s
  pub stored : HasCleanDisk (file_state opened) → IsFalse (is_blank image.db)
  pub settled : LeavesItself (file_state opened)

-- With one of our names it names another version, or none; or an allocation failed.
abbrev pub IsOfAnother : OpenFault → (old new : State) → Type 0
IsOfAnother returned old new =
    ((version : ℕ) × NamesVersion version old new × (version ≢ made_version) × (returned ≡ fault.NotOurs version))
    ⊎ (((error : Error) × FailsToQuery version_query [] old new error × (returned ≡ unasked error))
    ⊎ (returned ≡ fault.NoMemory))

-- What the files held was opened, but holds no tables of this version; `left` is the connection that was let go.
pub record FailsToRead {S : Type 0} (g : Ghosts S) (image : Image) (returned : OpenFault) (opened left : Held S) : Type
    0 where
  pub opens : HasCleanDisk (state g left) → Opens (state g opened) × IsLive (state g opened)
  pub found : HasCleanDisk (state g left) → FindsIn image (state g opened)
  -- no name is ours
  pub unnamed : IsFalse (has_our_name opened.schema) → returned ≡ fault.NotOurs 0
  pub another : HasCleanDisk (state g left) → IsTrue (has_our_name opened.schema)
      → IsOfAnother returned (state g opened) (state g left)
  -- nothing was changed
  pub unharmed : HasCleanDisk (state g left) → IsTrue (state g left).is_open → (state g left).now ≡ (state g opened).now
  pub survives : Survives (state g opened) (state g left) (λ _. ⊥)

-- The database file is empty, or of one byte: it holds none of our tables, and is not opened.
abbrev pub HoldsNothing : {D : Type 0} (g : disk.Ghosts D) → (Bool → D → Type 0) → OpenFault → Type 0
HoldsNothing {D} g is_fresh returned =
    (db : D) × is_fresh false db × IsTrue (is_blank (g.seen db)) × (returned ≡ fault.NotOurs 0)

-- The files are not opened, or hold nothing, or what they hold is not read.
abbrev pub IsNotRead : {D : Type 0} (g : disk.Ghosts D) → (Bool → D → Type 0) → Image → OpenFault → Type 0
IsNotRead {D} g is_fresh image returned =
    FailsToOpen g is_fresh returned
    ⊎ (HoldsNothing g is_fresh returned
    ⊎ ((opened : Held (FileStore D g)) × (left : Held (FileStore D g))
    × FailsToRead over_files image returned opened left))
