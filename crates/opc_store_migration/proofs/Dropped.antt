-- The last tables of an older version are dropped, each before those that it refers to.
use Rattle.std.proofs.Common.{◌≡◌, ℕ, List, [], ◌∷◌, ◌++◌, length, slice_get, codes, false, Some, Ok, OnOk, Err, Result, refl, sym, subst}
use Rattle.sqlite_trees.specs.declared.store.Store.{Ghosts}
use Rattle.sqlite.specs.Order.{Row}
use Rattle.sqlite.specs.Table.{Table}
use Rattle.sqlite.specs.Schema.{Schema}
use Rattle.sqlite.specs.Command.TheVariants.{DropTable}
use Rattle.sqlite.specs.Change.{without_table}
use Rattle.sqlite.specs.Does.{is_acted_on}
use Rattle.sqlite.specs.Held.{Held, state}
use Rattle.sqlite.specs.State.{State, Executes}
use Rattle.sqlite.specs.Listing.{understood}
use Rattle.sqlite.proofs.Callers.{IsPlain, command_of}
use Rattle.sqlite_schema.specs.Names.{same_name}
use Rattle.sqlite_schema.specs.declared.schema.Keys.TheVariants.{Enforced}
use Rattle.sqlite_value.specs.Keys.{joined}
use Rattle.sqlite_tied.specs.Compute.{everything}
use Rattle.opc_store_sql.specs.Rows.{HasTables}
use Rattle.opc_store_sql.specs.Steps.{RanAll}
use Rattle.opc_store_sql.proofs.Dropping.{drops_last}
use Rattle.opc_store_schema.specs.Contents.{Contents, as_list}
use Rattle.opc_store_schema.specs.Tables.{lasting_schema}
use Rattle.opc_store_old_tables.specs.Tables.{Older, First, Second, old_schema, old_at}
use Rattle.opc_store_migration.specs.Between.{lasting_rows}

abbrev pub drops : List (List ℕ)
drops = codes "DROP TABLE entries" ∷ codes "DROP TABLE profiles" ∷ codes "DROP TABLE connects" ∷ codes "DROP TABLE usr" ∷ []

-- what is left with one table fewer each
abbrev without_entries : Older → Schema
without_entries version = without_table (old_schema version) (old_at version 16).tree

abbrev without_profiles : Older → Schema
without_profiles version = without_table (without_entries version) (old_at version 15).tree

abbrev without_connects : Older → Schema
without_connects version = without_table (without_profiles version) (old_at version 14).tree

-- the statement drops the last table of the schema, and sets nothing off
record Goes (schema : Schema) (sql : List ℕ) (at : ℕ) (table : Table) : Type 0 where
  is : command_of (understood schema sql) ≡ DropTable at
  plain : IsPlain (understood schema sql)
  found : slice_get schema.tables at ≡ Some table
  quiet : is_acted_on schema Enforced table ≡ false
  uncounted : table.is_counted ≡ false
  last : schema.tables ≡ (without_table schema table.tree).tables ++ table ∷ []

goes : (schema : Schema) (sql : List ℕ) (at : ℕ) (table : Table) → Goes schema sql at table
    → (old new : State) (count : ℕ) (all : List (List Row)) (rows : List Row)
    → length all ≡ length (without_table schema table.tree).tables
    → HasTables schema (all ++ rows ∷ []) old.now → Executes sql [] old new (Ok count) → HasTables (without_table schema table.tree) all new.now
goes schema sql at table it old new count all rows long has h =
    drops_last schema sql at table it.is it.plain it.found it.quiet it.uncounted it.last old new count all rows long has
    h

entries_read : (version : Older)
    → (command_of (understood (old_schema version) (codes "DROP TABLE entries")) ≡ DropTable 16)
    × IsPlain (understood (old_schema version) (codes "DROP TABLE entries"))
unfolding understood everything
entries_read First = (refl, (refl, refl))
entries_read Second = (refl, (refl, refl))

entries_quiet : (version : Older) → is_acted_on (old_schema version) Enforced (old_at version 16) ≡ false
unfolding same_name joined
entries_quiet First = refl
entries_quiet Second = refl

profiles_read : (version : Older)
    → (command_of (understood (without_entries version) (codes "DROP TABLE profiles")) ≡ DropTable 15)
    × IsPlain (understood (without_entries version) (codes "DROP TABLE profiles"))
unfolding understood everything
profiles_read First = (refl, (refl, refl))
profiles_read Second = (refl, (refl, refl))

profiles_quiet : (version : Older) → is_acted_on (without_entries version) Enforced (old_at version 15) ≡ false
unfolding same_name joined
profiles_quiet First = refl
profiles_quiet Second = refl

connects_read : (version : Older)
    → (command_of (understood (without_profiles version) (codes "DROP TABLE connects")) ≡ DropTable 14)
    × IsPlain (understood (without_profiles version) (codes "DROP TABLE connects"))
unfolding understood everything
connects_read First = (refl, (refl, refl))
connects_read Second = (refl, (refl, refl))

connects_quiet : (version : Older) → is_acted_on (without_profiles version) Enforced (old_at version 14) ≡ false
unfolding same_name joined
connects_quiet First = refl
connects_quiet Second = refl

usr_read : (version : Older)
    → (command_of (understood (without_connects version) (codes "DROP TABLE usr")) ≡ DropTable 13)
    × IsPlain (understood (without_connects version) (codes "DROP TABLE usr"))
unfolding understood everything
usr_read First = (refl, (refl, refl))
usr_read Second = (refl, (refl, refl))

usr_quiet : (version : Older) → is_acted_on (without_connects version) Enforced (old_at version 13) ≡ false
unfolding same_name joined
usr_quiet First = refl
usr_quiet Second = refl

entries_go : (version : Older) → Goes (old_schema version) (codes "DROP TABLE entries") 16 (old_at version 16)
entries_go First = let read = entries_read First in record {
  is = read.0;
  plain = read.1;
  found = refl;
  quiet = entries_quiet First;
  uncounted = refl;
  last = refl;
}
entries_go Second = let read = entries_read Second in record {
  is = read.0;
  plain = read.1;
  found = refl;
  quiet = entries_quiet Second;
  uncounted = refl;
  last = refl;
}

profiles_go : (version : Older) → Goes (without_entries version) (codes "DROP TABLE profiles") 15 (old_at version 15)
profiles_go First = let read = profiles_read First in record {
  is = read.0;
  plain = read.1;
  found = refl;
  quiet = profiles_quiet First;
  uncounted = refl;
  last = refl;
}
profiles_go Second = let read = profiles_read Second in record {
  is = read.0;
  plain = read.1;
  found = refl;
  quiet = profiles_quiet Second;
  uncounted = refl;
  last = refl;
}

connects_go : (version : Older) → Goes (without_profiles version) (codes "DROP TABLE connects") 14 (old_at version 14)
connects_go First = let read = connects_read First in record {
  is = read.0;
  plain = read.1;
  found = refl;
  quiet = connects_quiet First;
  uncounted = refl;
  last = refl;
}
connects_go Second = let read = connects_read Second in record {
  is = read.0;
  plain = read.1;
  found = refl;
  quiet = connects_quiet Second;
  uncounted = refl;
  last = refl;
}

usr_goes : (version : Older) → Goes (without_connects version) (codes "DROP TABLE usr") 13 (old_at version 13)
usr_goes First = let read = usr_read First in record { is = read.0; plain = read.1; found = refl; quiet = usr_quiet First; uncounted = refl; last = refl }
usr_goes Second = let read = usr_read Second in record { is = read.0; plain = read.1; found = refl; quiet = usr_quiet Second; uncounted = refl; last = refl }

-- as many tables as rows are left, and at the end those that last
record Counts (version : Older) (c : Contents) : Type 0 where
  three : length (lasting_rows c ++ c.usr ∷ c.connects ∷ c.profiles ∷ []) ≡ length (without_entries version).tables
  two : length (lasting_rows c ++ c.usr ∷ c.connects ∷ []) ≡ length (without_profiles version).tables
  one : length (lasting_rows c ++ c.usr ∷ []) ≡ length (without_connects version).tables
  none : length (lasting_rows c) ≡ length (without_table (without_connects version) (old_at version 13).tree).tables
  end : without_table (without_connects version) (old_at version 13).tree ≡ lasting_schema

counts : (version : Older) (c : Contents) → Counts version c
counts First c = record { three = refl; two = refl; one = refl; none = refl; end = refl }
counts Second c = record { three = refl; two = refl; one = refl; none = refl; end = refl }

module _ {S : Type 0} (g : Ghosts S) where
  dropped : (version : Older) (c : Contents) (old new : Held S) → RanAll g drops old new
      → HasTables (old_schema version) (as_list c) (state g old).now
      → HasTables lasting_schema (lasting_rows c) (state g new).now
  dropped version c old new ran has =
      let many = counts version c in
      let second = ran.3 in
      let third = second.3 in
      let fourth = third.3 in
      let a = goes (old_schema version) (codes "DROP TABLE entries") 16 (old_at version 16) (entries_go version)
      (state g old) (state g ran.0) ran.1 (lasting_rows c ++ c.usr ∷ c.connects ∷ c.profiles ∷ []) c.entries
      many.three has ran.2.executes in
      let b = goes (without_entries version) (codes "DROP TABLE profiles") 15 (old_at version 15) (profiles_go version)
      (state g ran.0) (state g second.0) second.1 (lasting_rows c ++ c.usr ∷ c.connects ∷ []) c.profiles many.two a
      second.2.executes in
      let d = goes (without_profiles version) (codes "DROP TABLE connects") 14 (old_at version 14) (connects_go version)
      (state g second.0) (state g third.0) third.1 (lasting_rows c ++ c.usr ∷ []) c.connects many.one b
      third.2.executes in
      let e = goes (without_connects version) (codes "DROP TABLE usr") 13 (old_at version 13) (usr_goes version)
      (state g third.0) (state g fourth.0) fourth.1 (lasting_rows c) c.usr many.none d fourth.2.executes in
      let last : HasTables lasting_schema (lasting_rows c) (state g fourth.0).now =
      subst (λ (s : Schema). HasTables s (lasting_rows c) (state g fourth.0).now) many.end e in
      subst (λ (h : Held S). HasTables lasting_schema (lasting_rows c) (state g h).now) (sym fourth.3) last

  pub all_dropped : {X E : Type 0} (old new : Held S) (result : Result X E) → OnOk result (RanAll g drops old new)
      → OnOk result ((version : Older) → (c : Contents) → HasTables (old_schema version) (as_list c) (state g old).now
      → HasTables lasting_schema (lasting_rows c) (state g new).now)
  all_dropped old new (Ok v) ran = λ version c has. dropped version c old new ran has
  all_dropped old new (Err e) ran = tt
