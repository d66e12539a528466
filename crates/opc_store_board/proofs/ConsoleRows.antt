-- The table of consoles, and what its statements make of a state.
use Rattle.std.proofs.Common.{◌≡◌, ℕ, List, [], ◌∷◌, true, false, None, not, codes, Ok, refl, ap, subst, ◌∙◌}
use Rattle.std.proofs.lemmas.Map.Text.{is_eq-slice_cmp}
use Rattle.sqlite.specs.declared.types.Value.TheVariants.{Text}
use Rattle.sqlite.specs.Held.{Held, state}
use Rattle.sqlite.specs.Listing.{understood}
use Rattle.sqlite.specs.State.{State as SqlState, Executes}
use Rattle.sqlite_keyed.proofs.ListLemmas.{filter_same}
use Rattle.sqlite_schema.specs.Names.{same_name}
use Rattle.sqlite_tied.specs.Compute.{everything}
use Rattle.sqlite_trees.specs.declared.store.Store.{Ghosts}
use Rattle.sqlite_value.specs.Keys.{joined}
use Rattle.opc_store_sql.specs.Steps.{Puts}
use Rattle.opc_store_sql.proofs.Keyed.{Keyed, IsKeyed, AreUnderstood, is_idle, removes, puts}
use Rattle.opc_store_sql.proofs.Steps.{cast_int}
use Rattle.opc_store_sql.proofs.Values.{equal_texts, and_true}
use Rattle.opc_names.specs.declared.auth.Auth.TheVariants.{Info}
use Rattle.opc_terms.specs.declared.mode.Mode.TheVariants.{Optional}
use Rattle.opc_board.specs.declared.rows.ConsoleRow.{ConsoleRow}
use Rattle.opc_state.specs.State.{State}
use Rattle.opc_state.specs.Changes.{with_consoles}
use Rattle.opc_state.specs.Members.{console_cmp, with_console, without_console}
use Rattle.opc_store_schema.specs.Tables.{the_schema}
use Rattle.opc_store_schema.specs.Placed.{consoles_at}
use Rattle.opc_store_schema.specs.Represented.{Represents, Tabulates, console_row}
use Rattle.opc_store_schema.proofs.Cast.{cast_text_or_null}
use Rattle.opc_store_schema.proofs.Keys.{console_total}
use Rattle.opc_store_schema.proofs.OrderedBoard.{with_console_ordered, without_console_ordered}
use Rattle.opc_store_schema.proofs.OtherTables.{with_consoles as spares_consoles}

abbrev pub consoles : Keyed ConsoleRow
consoles = record {
  schema = the_schema;
  place = 2;
  table = consoles_at;
  width = 1;
  insert = codes "INSERT INTO consoles VALUES (?1, ?2, ?3, ?4, ?5, ?6)";
  update = codes "UPDATE consoles SET name = ?1, auth = ?2, mode = ?3, online = ?4, usr = ?5, monitor = ?6 WHERE name = ?1";
  delete = codes "DELETE FROM consoles WHERE name = ?1";
  row = console_row;
  cmp = console_cmp;
}

texts : AreUnderstood consoles
unfolding understood everything
texts = record { insert_is = refl; update_is = refl; delete_is = refl; insert_plain = (refl, refl); update_plain = (refl, refl); delete_plain = (refl, refl) }

idle : (is_idle the_schema consoles_at.tree true ≡ true) × (is_idle the_schema consoles_at.tree false ≡ true)
unfolding same_name joined
idle = (refl, refl)

keyed : IsKeyed consoles
keyed = record {
  texts = texts;
  found = refl;
  simple = record { uncounted = refl; stampless = refl };
  idle = idle;
  stores = λ x. (refl, (cast_int _, (refl, (cast_int _, (cast_text_or_null x.user, (cast_int _, tt))))));
  values = λ x rest. refl;
  gives = λ x. refl;
  tested = λ x rest. refl;
  total = console_total;
  picks = λ x y. and_true _ ∙ equal_texts y.name x.name;
}

pub console_put : {S : Type 0} (g : Ghosts S) (old new : Held S) (s : State) → Represents (state g old).now s
    → (console : ConsoleRow) → Puts g consoles.update consoles.insert (console_row console) old new
    → Represents (state g new).now (with_consoles (with_console console s.board.consoles) s)
console_put g old new s was console h =
    let it = puts g consoles keyed old new was.rows.schema s.board.consoles was.ordered.consoles was.rows.holds.consoles console h in
    record { ordered = with_console_ordered s was.ordered console; rows = spares_consoles _ _ _ was.rows it.spares _ it.rows }

pub console_removed : (old new : SqlState) (count : ℕ) (s : State) → Represents old.now s → (name : List ℕ)
    → Executes consoles.delete (Text name ∷ []) old new (Ok count)
    → Represents new.now (with_consoles (without_console name s.board.consoles) s)
console_removed old new count s was name h =
    let console : ConsoleRow = record { name = name; auth = Info; mode = Optional; online = false; user = None; monitor = false } in
    let it = removes consoles keyed console old new count was.rows.schema s.board.consoles was.ordered.consoles was.rows.holds.consoles h in
    record {
      ordered = without_console_ordered s was.ordered name;
      rows = subst (λ (l : List ConsoleRow). Tabulates new.now (with_consoles l s))
          (filter_same _ _ (λ x. ap not (is_eq-slice_cmp x.name name)) s.board.consoles)
          (spares_consoles _ _ _ was.rows it.spares _ it.rows);
    }
