-- A file as it was read, whole, and what it holds since something was written.
use Rattle.std.specs.Prelude.{◌≡◌, ℕ, Bool, if◌then◌else◌, List, length, nat_le, Option, Some, None, Vec}
use Rattle.std.specs.Str.{bytes_eq}
use Rattle.sqlite_disk.specs.declared.start.Start.{Ghosts}
use Rattle.opc_store_file.specs.declared.copy.CopyFrom.{CopyFrom}

-- what was written in place of what was read
abbrev pub held_over : {A : Type 0} → (written : Option (Vec ℕ A)) → (read : List ℕ) → List ℕ
held_over None read = read
held_over (Some bytes) read = bytes.items

module _ {S : Type 0} where
  abbrev pub bytes_read : CopyFrom S → List ℕ
  bytes_read copy = copy.read.items

  abbrev pub bytes_held : CopyFrom S → List ℕ
  bytes_held copy = held_over copy.written copy.read.items

  -- what was read is what the log, or the database file, held
  abbrev pub is_faithful : Ghosts S → CopyFrom S → Bool
  is_faithful start copy = bytes_eq copy.read.items (if copy.is_log then start.log else start.db)

  -- a copy of the log, or of the database file, to which nothing was written
  abbrev pub IsAsRead : Bool → CopyFrom S → Type 0
  IsAsRead is_log copy = (copy.is_log ≡ is_log) × (copy.written ≡ None)

-- a file in which nothing is stored: SQLite takes one byte for none
abbrev pub is_blank : List ℕ → Bool
is_blank bytes = nat_le (length bytes) 1
