-- Why a database is not opened, and what a new file holds.
use Rattle.std.specs.Prelude.{
  ◌≡◌,
  ◌≢◌,
  ◌⊎◌,
  ℕ,
  Bool,
  true,
  false,
  [],
  Option,
  None,
  Result,
  IfErr,
  IfSome,
  IsTrue,
  IsFalse,
  not,
}
use Rattle.sqlite_disk.specs.declared.Disk as disk
use Rattle.sqlite_disk.specs.declared.Files.{Files}
use Rattle.sqlite_store.specs.declared.store.FileStore.{FileStore}
use Rattle.sqlite_catalog.specs.Listing.{Lists}
use Rattle.sqlite_trees.specs.Objects.{catalog_tree}
use Rattle.sqlite_trees.specs.Tree.{Trees}
use Rattle.sqlite_trees.specs.declared.store.Store.{Ghosts}
use Rattle.sqlite.specs.Held.{Held, state}
use Rattle.sqlite.specs.Recovery.{Image}
use Rattle.sqlite.specs.Start.{FindsIn}
use Rattle.sqlite.specs.State.{State, FailsToQuery, HasCleanDisk, IsLive, Opens, Survives}
use Rattle.sqlite.specs.Files.{
  over_files,
  file_state,
  AreFoundIn,
  FailsToOpenFiles,
  HoldsDatabase,
  IsCleanLeft,
  LeavesFiles,
}
use Rattle.sqlite.specs.declared.file.Leftover.{Leftover}
use Rattle.sqlite.specs.declared.error.Error.{Error}
use Rattle.sqlite.specs.declared.error.Error.TheVariants.{SqlInputError, SqliteFailure}
use Rattle.sqlite.specs.declared.error.ErrorCode.TheVariants.{CannotOpen, DatabaseBusy, OutOfMemory}
use Rattle.opc_terms.specs.declared.fault.Fault.{Fault}
use Rattle.opc_terms.specs.declared.fault.Fault.TheVariants as the_fault
use Rattle.opc_terms.specs.declared.store_fault.StoreFault.{StoreFault}
use Rattle.opc_terms.specs.declared.store_fault.StoreFault.TheVariants as store_fault
use Rattle.opc_store.specs.declared.opening.OpenFault.{OpenFault}
use Rattle.opc_store.specs.declared.opening.OpenFault.TheVariants as fault
use Rattle.opc_state.specs.State.{State as TheState, empty}
use Rattle.opc_store_sql.specs.Shapes.{no_schema}
use Rattle.opc_store_old_tables.specs.Old.{AreOldTablesOf}
use Rattle.opc_store_old_tables.specs.Tables.{Older}
use Rattle.opc_store_schema.specs.Changes.{fault_of}
use Rattle.opc_store_schema.specs.Making.{AreMadeOver}
use Rattle.opc_store_schema.specs.Represented.{AreTablesOf, Represents, made_version}
use Rattle.opc_store_schema.specs.Ours.{has_our_name, NamesVersion, version_query}

-- a log and a database file in which nothing is written
abbrev pub new_files : Image
new_files = record { log = []; db = [] }

abbrev pub of_store : StoreFault → OpenFault
of_store store_fault.NoMemory = fault.NoMemory
of_store store_fault.Store = fault.Store

-- the fault of the gate for a failed opening: E90, E91 or E92
abbrev pub opening_fault : OpenFault → Fault
opening_fault fault.NoMemory = the_fault.NoMemory
opening_fault fault.Store = the_fault.Store
opening_fault (fault.NotOurs version) = the_fault.NotOurs version

-- a failed allocation is distinguished from every other cause
abbrev pub open_fault : Error → OpenFault
open_fault error = of_store (fault_of error)

-- A meta whose version cannot be read, since it has no such column or is not there, names none.
abbrev pub unasked : Error → OpenFault
unasked (SqlInputError error) = fault.NotOurs 0
unasked error = open_fault error

-- the versions before this one
abbrev pub IsOlder : ℕ → Type 0
IsOlder version = (version ≡ 1) ⊎ (version ≡ 2)

-- its version was read, and is an older one
abbrev pub WasOlder : {S : Type 0} → Ghosts S → State → Type 0
WasOlder {S} g old = (asked : Held S) × (version : ℕ) × NamesVersion version old (state g asked) × IsOlder version

-- its version was read, and is this one, or was an older one before it was migrated
abbrev pub IsKnown : {S : Type 0} → Ghosts S → State → State → Type 0
IsKnown g old new = NamesVersion made_version old new ⊎ WasOlder g old

-- Why a database with our names is not opened: its version is unknown or cannot be read, or an allocation fails, or its
-- tables are older and the migration fails.
abbrev pub IsRefused : {S : Type 0} → Ghosts S → OpenFault → State → State → Type 0
IsRefused g returned old new =
    ((version : ℕ) × NamesVersion version old new × (¬ IsOlder version) × (version ≢ made_version)
    × (returned ≡ fault.NotOurs version))
    ⊎ (((error : Error) × FailsToQuery version_query [] old new error × (returned ≡ unasked error))
    ⊎ ((returned ≡ fault.NoMemory) ⊎ ((returned ≡ fault.Store) × WasOlder g old)))

-- the fault states nothing about a version
abbrev pub IsNoVersion : OpenFault → Type 0
IsNoVersion returned = (returned ≡ fault.NoMemory) ⊎ (returned ≡ fault.Store)

-- What a crash may leave of an opening, besides what it might have left before: if no name is ours, the tables beside
-- what was there, and those of the empty state if nothing was defined; if the tables were older, those of the same
-- state in this version.
abbrev pub MayLeave : {S : Type 0} → Ghosts S → Held S → Trees → Type 0
MayLeave g old db =
    (IsFalse (has_our_name old.schema) × AreMadeOver g old db × (old.schema ≡ no_schema → AreTablesOf db empty))
    ⊎ (IsTrue (has_our_name old.schema) × WasOlder g (state g old)
    × ((version : Older) (s : TheState) → AreOldTablesOf version (state g old).now.trees s → AreTablesOf db s))

-- What the files held was opened, and a store adopted it.
pub record Adopts {S : Type 0} (g : Ghosts S) (image : Image) (are_made : Bool) (opened adopted : Held S) : Type
    0 where
  pub opens : Opens (state g opened) × IsLive (state g opened)
  pub found : FindsIn image (state g opened)
  -- with one of our names it named a known version
  pub known : IsTrue (has_our_name opened.schema) → IsKnown g (state g opened) (state g adopted)
  -- without one it got the tables,
  pub made : IsFalse (has_our_name opened.schema) → AreMadeOver g opened (state g adopted).now.trees
  -- and only then they count as newly made
  pub counts : are_made ≡ not (has_our_name opened.schema)

-- A store stands over what files held, and its tables are newly made or not.
abbrev pub IsAdopted : {D : Type 0} {g : disk.Ghosts D} → Image → Bool → Held (FileStore D g) → Type 0
IsAdopted {D = D} {g = g} image are_made store =
    (opened : Held (FileStore D g)) × Adopts over_files image are_made opened store

-- A crash leaves what is there.
abbrev pub LeavesItself : State → Type 0
LeavesItself s = HasCleanDisk s → (db : Trees) → s.may_leave db → db ≡ s.now.trees

module _ {D : Type 0} {g : disk.Ghosts D} where
  -- Files were opened, or made: what they held is what the tables represent, also of older tables; where nothing was
  -- defined the tables are those of the empty state; a crash leaves that; and they are newly made, or not.
  pub record IsOpenedAt (image : Image) (are_made : Bool) (opened : Held (FileStore D g)) : Type 0 where
    pub found : HasCleanDisk (file_state opened) → (db : Trees) → HoldsDatabase image db → (s : TheState)
        → AreTablesOf db s → Represents (file_state opened).now s
    pub copied : HasCleanDisk (file_state opened) → (db : Trees) → HoldsDatabase image db → (version : Older)
        → (s : TheState) → AreOldTablesOf version db s → Represents (file_state opened).now s
    pub made : HasCleanDisk (file_state opened) → (trees : Trees) × AreFoundIn image trees
        × (Lists (trees catalog_tree) no_schema → Represents (file_state opened).now empty)
    pub settled : LeavesItself (file_state opened)
    pub adopted : HasCleanDisk (file_state opened) → IsAdopted image are_made opened

-- The files were not opened: the system refused them or an allocation failed, and nothing is left; or `left` is what an
-- opening that meets this error leaves of `files`.
abbrev pub FailsToOpen : {D : Type 0} (g : disk.Ghosts D) → (Bool → D → Type 0) → OpenFault → Type 0
FailsToOpen {D} g is_fresh returned =
    (error : Error) × (rest : Option (Leftover D g)) × (returned ≡ open_fault error)
    × (rest ≡ None → (error ≡ SqliteFailure CannotOpen)
    ⊎ ((error ≡ SqliteFailure OutOfMemory) ⊎ (error ≡ SqliteFailure DatabaseBusy)))
    × IfSome rest (λ left. (files : Files D) × is_fresh true files.log × is_fresh false files.db
    × (IsCleanLeft left → FailsToOpenFiles files left error × LeavesFiles files left))

-- What the files held was opened, and no store adopted it; `left` is the connection that was let go.
pub record FailsToAdopt {S : Type 0} (g : Ghosts S) (image : Image) (returned : OpenFault) (opened left : Held S) : Type
    0 where
  pub opens : HasCleanDisk (state g left) → Opens (state g opened) × IsLive (state g opened)
  pub found : HasCleanDisk (state g left) → FindsIn image (state g opened)
  -- without one of our names it would get the tables
  pub unmade : IsFalse (has_our_name (state g opened).now.schema) → IsNoVersion returned
  pub refused : HasCleanDisk (state g left) → IsTrue (has_our_name (state g opened).now.schema)
      → IsRefused g returned (state g opened) (state g left)
  pub unharmed : HasCleanDisk (state g left) → IsTrue (state g left).is_open → (state g left).now ≡ (state g opened).now
  -- if a version is returned, a crash leaves what it would have left before the query
  pub survives : Survives (state g opened) (state g left) (λ db. IsNoVersion returned × MayLeave g opened db)

-- Why an opening at a path fails: the files are not opened, or what they held is not adopted.
abbrev pub IsNotOpened : {D : Type 0} (g : disk.Ghosts D) → (Bool → D → Type 0) → Image → OpenFault → Type 0
IsNotOpened {D} g is_fresh image returned =
    FailsToOpen g is_fresh returned ⊎ ((opened : Held (FileStore D g)) × (left : Held (FileStore D g))
    × FailsToAdopt over_files image returned opened left)

abbrev pub FailsAtPath : {D : Type 0} {g : disk.Ghosts D} → (Bool → D → Type 0) → Image
    → Result (Held (FileStore D g)) OpenFault → Type 0
FailsAtPath {g = g} is_fresh image result = IfErr result (IsNotOpened g is_fresh image)
