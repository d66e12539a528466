-- An import that is tried over a copy of a database file.
use Rattle.std.specs.Prelude.{ℕ, List, Option, Result}
use Rattle.sqlite_disk.specs.declared.Disk as disk
use Rattle.sqlite_store.specs.declared.store.FileStore.{FileStore}
use Rattle.sqlite.specs.Files.{over_files}
use Rattle.sqlite.specs.Held.{Held}
use Rattle.sqlite.specs.Recovery.{Image}
use Rattle.opc_store.specs.Reading.{IsFoundAt}
use Rattle.opc_store.specs.StoreTables.{store_meaning}
use Rattle.opc_cli_failures.specs.declared.failure.Failure.{Failure}
use Rattle.opc_cli_failures.specs.declared.status.Status.{Status}
use Rattle.opc_cli_program.specs.DryRuns.{IsDryRunNow}
use Rattle.opc_cli_tasks.specs.declared.work.Import.{Import}
use Rattle.opc_io.specs.declared.watched.Watched.{Watched}
use Rattle.opc_cli.specs.Works.{unknown_moment}

module _ {D : Type 0} (g : disk.Ghosts D) {W : Type 0} (contents : W → Option (List ℕ)) (image : Image) where
  -- The file was opened to be read, and the import tried over what was read. That is let go.
  pub record IsDryRunAt (import : Import) (left : Option (List ℕ)) (before written : Watched W)
      (end : Result Status Failure) : Type 0 where
    pub opened : Held (FileStore D g)
    pub last : Held (FileStore D g)
    pub reading : IsFoundAt image opened
    pub done : IsDryRunNow (store_meaning over_files) opened last contents before written end unknown_moment left import
