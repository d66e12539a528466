-- The tables that are made are empty.
use Rattle.std.proofs.Common.{◌≡◌, ℕ, List, [], ◌∷◌, ◌++◌, drop, true, false, Result, Ok, Err, OnOk, refl, subst}
use Rattle.sqlite_trees.specs.declared.store.Store.{Ghosts}
use Rattle.sqlite.specs.Order.{Row}
use Rattle.sqlite.specs.Held.{Held, state}
use Rattle.opc_names.specs.declared.class.Class.TheVariants.{Console, Opercmds}
use Rattle.opc_store_sql.specs.Rows.{HasTables}
use Rattle.opc_store_sql.specs.Shapes.{no_schema}
use Rattle.opc_store_sql.specs.Steps.{Ran, RanAll}
use Rattle.opc_store_sql.proofs.Making.{makes_all, makes_more, makes_indexes, no_rows_of}
use Rattle.opc_store_schema.specs.Made.{IsMade, nothing, no_last_rows}
use Rattle.opc_store_schema.specs.Making.{lasting, last, indexes, insert_version, insert_class, insert_halted, first_rows, RanEach, AreMadeOver}
use Rattle.opc_store_schema.specs.Represented.{version_row, class_row, halted_row}
use Rattle.opc_store_schema.specs.Tables.{meta_table, lasting_tables, last_tables, the_indexes, lasting_schema, tables_schema, the_schema}
use Rattle.opc_store_schema.proofs.OtherTables.{named}
use Rattle.opc_store_schema.proofs.Texts.{lasting_defined, last_defined, indexes_defined}

module _ {S : Type 0} (g : Ghosts S) where
  pub makes_lasting : (old new : Held S) → old.schema ≡ no_schema → RanAll g lasting old new
      → HasTables lasting_schema (no_rows_of lasting_tables) (state g new).now
  makes_lasting old new none ran = makes_all g lasting meta_table (drop 1 lasting_tables) old new none ran lasting_defined

  pub makes_last : {X E : Type 0} (old mid new : Held S) (result : Result X E) → RanAll g last old mid → OnOk result (RanAll g indexes mid new)
      → OnOk result ((all : List (List Row)) → HasTables lasting_schema all (state g old).now → HasTables the_schema (all ++ no_last_rows) (state g new).now)
  makes_last old mid new (Err e) first second = tt
  makes_last old mid new (Ok v) first second = λ all was.
      makes_indexes g tables_schema indexes the_indexes (all ++ no_last_rows) mid new indexes_defined
      (makes_more g lasting_schema last last_tables all old mid last_defined was first) second

  pub ran_then : (before after : List (List ℕ)) (a b c : Held S) → RanAll g before a b → RanAll g after b c → RanAll g (before ++ after) a c
  ran_then [] after a b c first second = subst (λ (h : Held S). RanAll g after h c) first second
  ran_then (sql ∷ before) after a b c first second = (first.0, first.1, first.2, ran_then before after first.0 b c first.3 second)

  pub ran_each : {m n o p : ℕ} (a b c d e : Held S) → Ran g insert_version (version_row 3) a b m
      → Ran g insert_class (class_row (Opercmds, false)) b c n → Ran g insert_class (class_row (Console, false)) c d o
      → Ran g insert_halted (halted_row false) d e p → RanEach g first_rows a e
  ran_each {m = m} {n = n} {o = o} {p = p} a b c d e version opercmds console halted = (b, m, version, (c, n, opercmds, (d, o, console, (e, p, halted, refl))))

  pub made_over : (old tx made full : Held S) → tx ≡ record old { in_transaction = true }
      → RanAll g (lasting ++ last ++ indexes) tx made → RanEach g first_rows made full
      → AreMadeOver g old (state g full).now.trees
  made_over old tx made full begun ran filled = (made, full, subst (λ (h : Held S). RanAll g (lasting ++ last ++ indexes) h made) begun ran, filled, refl)

-- such tables are those of no rows
pub all_made : {S : Type 0} (g : Ghosts S) (new : Held S)
    → HasTables the_schema (no_rows_of lasting_tables ++ no_last_rows) (state g new).now
    → IsMade nothing (state g new).now
all_made g new has = record { schema = has.schema_is; sound = has.sound; holds = named (state g new).now.trees nothing has.filled }
