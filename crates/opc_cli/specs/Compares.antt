-- The policies that `diff` compares: each of a file, or of the tables of a database file that is read.
use Rattle.std.specs.Prelude.{◌≡◌, ◌⊎◌, Bool, None, Result, IsErrAnd}
use Rattle.sqlite_disk.specs.declared.Disk as disk
use Rattle.sqlite_store.specs.declared.store.FileStore.{FileStore}
use Rattle.sqlite.specs.Files.{over_files}
use Rattle.sqlite.specs.Held.{Held}
use Rattle.sqlite.specs.Recovery.{Image}
use Rattle.opc_state.specs.Changes.{IsKept}
use Rattle.opc_state.specs.State.{State}
use Rattle.opc_store.specs.Opening.{opening_fault}
use Rattle.opc_store.specs.Reading.{IsFoundAt, IsNotRead}
use Rattle.opc_store.specs.StoreTables.{store_meaning}
use Rattle.opc_store.specs.declared.opening.OpenFault.{OpenFault}
use Rattle.opc_cli_failures.specs.declared.failure.Failure.{Failure}
use Rattle.opc_cli_questions.specs.Sides.{IsMade, IsSideOn, IsSideRead}
use Rattle.opc_cli_questions.specs.declared.sides.PolicySide.{PolicySide}
use Rattle.opc_cli_tasks.specs.declared.source.NamedPolicy.{NamedPolicy}
use Rattle.opc_cli_tasks.specs.declared.source.NamedPolicy.TheVariants.{Database, File}

module _ {D : Type 0} (g : disk.Ghosts D) (is_as_read : Bool → D → Type 0) (image : Image)
    (result : Result PolicySide Failure) where
  -- The file was opened to be read, and this is the policy of its tables.
  pub record IsSideOver : Type 0 where
    pub opened : Held (FileStore D g)
    pub last : Held (FileStore D g)
    pub reading : IsFoundAt image opened
    pub kept : IsKept (store_meaning over_files) opened last
    pub side : (store_meaning over_files).is_sure last → (s : State)
        → (store_meaning over_files).represents opened s → IsSideOn s result

  -- Or it was not opened.
  abbrev pub IsSideIn : Type 0
  IsSideIn = IsSideOver ⊎ IsErrAnd result (λ failure. (fault : OpenFault) × IsNotRead g is_as_read image fault
      × (failure.fault ≡ opening_fault fault))

  -- This is the policy that is named. Nothing is known about what the files of the system hold.
  abbrev pub IsSideFrom : NamedPolicy → Type 0
  IsSideFrom (File path) = IsSideRead None result
  IsSideFrom (Database path) = IsSideIn × IsMade result

-- The same, where nothing is known about what a database file holds, either.
abbrev pub IsOtherSide : NamedPolicy → Result PolicySide Failure → Type 0
IsOtherSide (File path) result = IsSideRead None result
IsOtherSide (Database path) result = IsMade result
