-- The statements that make the tables, and what they leave.
use Rattle.std.specs.Prelude.{◌≡◌, ℕ, true, false, List, [], ◌∷◌, ◌++◌, codes}
use Rattle.sqlite_trees.specs.declared.store.Store.{Ghosts}
use Rattle.sqlite_trees.specs.Tree.{Trees}
use Rattle.sqlite.specs.Held.{Held, state}
use Rattle.sqlite.specs.Order.{Row}
use Rattle.opc_names.specs.declared.class.Class.TheVariants.{Console, Opercmds}
use Rattle.opc_store_sql.specs.Steps.{Ran, RanAll}
use Rattle.opc_store_schema.specs.Represented.{made_version, version_row, class_row, halted_row}

abbrev pub lasting : List (List ℕ)
lasting =
    codes "CREATE TABLE meta (version INTEGER NOT NULL) STRICT"
    ∷ codes "CREATE TABLE classes (class TEXT NOT NULL PRIMARY KEY, active INTEGER NOT NULL) STRICT"
    ∷ codes "CREATE TABLE consoles (name TEXT NOT NULL PRIMARY KEY, auth INTEGER NOT NULL, mode TEXT NOT NULL, online INTEGER NOT NULL, usr TEXT, monitor INTEGER NOT NULL) STRICT"
    ∷ codes "CREATE TABLE units (name TEXT NOT NULL PRIMARY KEY, kind TEXT NOT NULL, member TEXT, cancelable INTEGER NOT NULL, stopping INTEGER NOT NULL, last TEXT) STRICT"
    ∷ codes "CREATE TABLE devices (number TEXT NOT NULL PRIMARY KEY, online INTEGER NOT NULL, volume TEXT, unit TEXT) STRICT"
    ∷ codes "CREATE TABLE replies (id INTEGER PRIMARY KEY, text TEXT NOT NULL) STRICT"
    ∷ codes "CREATE TABLE answered (number INTEGER PRIMARY KEY, id INTEGER NOT NULL, text TEXT NOT NULL) STRICT"
    ∷ codes "CREATE TABLE log (number INTEGER PRIMARY KEY, text TEXT NOT NULL) STRICT"
    ∷ codes "CREATE TABLE messages (number INTEGER PRIMARY KEY, usr TEXT NOT NULL, text TEXT NOT NULL) STRICT"
    ∷ codes "CREATE TABLE board (halted INTEGER NOT NULL) STRICT"
    ∷ codes "CREATE TABLE account (number INTEGER PRIMARY KEY, moment INTEGER NOT NULL, console TEXT NOT NULL, usr TEXT NOT NULL, code TEXT NOT NULL, rule TEXT NOT NULL) STRICT"
    ∷ codes "CREATE TABLE batches (number INTEGER PRIMARY KEY, rows TEXT NOT NULL) STRICT"
    ∷ codes "CREATE TABLE grp (name TEXT NOT NULL PRIMARY KEY) STRICT"
    ∷ []

abbrev pub last : List (List ℕ)
last =
    codes "CREATE TABLE usr (id TEXT NOT NULL PRIMARY KEY, special INTEGER NOT NULL, auditor INTEGER NOT NULL, revoked INTEGER NOT NULL, digest BLOB, restricted INTEGER NOT NULL) STRICT"
    ∷ codes "CREATE TABLE connects (usr TEXT NOT NULL REFERENCES usr, grp TEXT NOT NULL REFERENCES grp, PRIMARY KEY (usr, grp)) STRICT"
    ∷ codes "CREATE TABLE profiles (class TEXT NOT NULL, pattern TEXT NOT NULL, owner TEXT NOT NULL REFERENCES usr, uacc INTEGER NOT NULL, warning INTEGER NOT NULL, skey BLOB NOT NULL, head TEXT NOT NULL, PRIMARY KEY (class, pattern), UNIQUE (class, skey), UNIQUE (class, head, skey), UNIQUE (owner, class, pattern)) STRICT"
    ∷ codes "CREATE TABLE entries (class TEXT NOT NULL, pattern TEXT NOT NULL, id TEXT NOT NULL, console TEXT NOT NULL, level INTEGER NOT NULL, PRIMARY KEY (class, pattern, id, console), UNIQUE (id, class, pattern, console), FOREIGN KEY (class, pattern) REFERENCES profiles ON DELETE CASCADE) STRICT"
    ∷ []

abbrev pub indexes : List (List ℕ)
indexes =
    codes "CREATE INDEX consoles_by_user ON consoles (usr, name)"
    ∷ codes "CREATE INDEX consoles_by_authority ON consoles (auth, online, name)"
    ∷ codes "CREATE INDEX devices_by_unit ON devices (unit, number)"
    ∷ []

abbrev pub insert_version : List ℕ
insert_version = codes "INSERT INTO meta VALUES (?1)"

abbrev pub insert_class : List ℕ
insert_class = codes "INSERT INTO classes VALUES (?1, ?2)"

abbrev pub insert_halted : List ℕ
insert_halted = codes "INSERT INTO board VALUES (?1)"

-- the rows that are always there, each with its statement: the version, the classes and the day
abbrev pub first_rows : List (List ℕ × Row)
first_rows = (insert_version, version_row made_version) ∷ (insert_class, class_row (Opercmds, false))
    ∷ (insert_class, class_row (Console, false)) ∷ (insert_halted, halted_row false) ∷ []

module _ {S : Type 0} (g : Ghosts S) where
  -- the statements ran, one after another, each with its parameters
  abbrev pub RanEach : List (List ℕ × Row) → Held S → Held S → Type 0
  RanEach [] old new = new ≡ old
  RanEach (one ∷ more) old new = (mid : Held S) × (count : ℕ) × Ran g one.0 one.1 old mid count × RanEach more mid new

  -- All of them ran in one transaction, whatever was there before, and these are the trees that they left.
  abbrev pub AreMadeOver : Held S → Trees → Type 0
  AreMadeOver old trees =
      (made : Held S) × (full : Held S) × RanAll g (lasting ++ last ++ indexes) (record old { in_transaction = true })
      made × RanEach first_rows made full × (trees ≡ (state g full).now.trees)
