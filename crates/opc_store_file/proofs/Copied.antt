-- What copies hold to which nothing was written.
use Rattle.std.proofs.Common.{◌≡◌, ◌∙◌, Bool, true, false, ◌&&◌, IsTrue, ap, if◌then◌else◌, refl}
use Rattle.std.proofs.lemmas.Slice.Eq.{bytes_eq-Decides}
use Rattle.sqlite_disk.specs.declared.start.Start.{Ghosts}
use Rattle.opc_store_file.specs.declared.copy.CopyFrom.{CopyFrom}
use Rattle.opc_store_file.specs.Copies.{IsAsRead, bytes_held, bytes_read, held_over, is_faithful}

both : (a b : Bool) → IsTrue (a && b) → IsTrue a × IsTrue b
both true b h = (refl, h)
both false b h = cc

-- what it holds is what was read
pub held_is_read : {S : Type 0} (is_log : Bool) (copy : CopyFrom S) → IsAsRead is_log copy → bytes_held copy ≡ bytes_read copy
held_is_read is_log copy as_read = ap (λ written. held_over written copy.read.items) as_read.1

module _ {S : Type 0} (start : Ghosts S) where
  -- and if it is faithful, what the log, or the database file, held
  read_is_there : (is_log : Bool) (copy : CopyFrom S) → IsAsRead is_log copy → IsTrue (is_faithful start copy)
      → bytes_read copy ≡ (if is_log then start.log else start.db)
  read_is_there is_log copy as_read faithful =
      (bytes_eq-Decides copy.read.items (if copy.is_log then start.log else start.db)).0 faithful
      ∙ ap (λ (b : Bool). if b then start.log else start.db) as_read.0

  module _ (log db : CopyFrom S) (faithful : IsTrue (is_faithful start log && is_faithful start db)) where
    pub log_held : IsAsRead true log → bytes_held log ≡ start.log
    log_held as_read = held_is_read true log as_read ∙ read_is_there true log as_read (both _ _ faithful).0

    pub database_read : IsAsRead false db → bytes_read db ≡ start.db
    database_read as_read = read_is_there false db as_read (both _ _ faithful).1

    pub database_held : IsAsRead false db → bytes_held db ≡ start.db
    database_held as_read = held_is_read false db as_read ∙ database_read as_read
