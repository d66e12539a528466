-- The table of units, and what its statements make of a state.
use Rattle.std.proofs.Common.{◌≡◌, ℕ, List, [], ◌∷◌, true, false, None, not, codes, Ok, refl, ap, subst, ◌∙◌}
use Rattle.std.proofs.lemmas.Map.Text.{is_eq-slice_cmp}
use Rattle.sqlite.specs.declared.types.Value.TheVariants.{Text}
use Rattle.sqlite.specs.Held.{Held, state}
use Rattle.sqlite.specs.Listing.{understood}
use Rattle.sqlite.specs.State.{State as SqlState, Executes}
use Rattle.sqlite_keyed.proofs.ListLemmas.{filter_same}
use Rattle.sqlite_schema.specs.Names.{same_name}
use Rattle.sqlite_tied.specs.Compute.{everything}
use Rattle.sqlite_trees.specs.declared.store.Store.{Ghosts}
use Rattle.sqlite_value.specs.Keys.{joined}
use Rattle.opc_store_sql.specs.Steps.{Puts}
use Rattle.opc_store_sql.proofs.Keyed.{Keyed, IsKeyed, AreUnderstood, is_idle, removes, puts}
use Rattle.opc_store_sql.proofs.Steps.{cast_int}
use Rattle.opc_store_sql.proofs.Values.{equal_texts, and_true}
use Rattle.opc_board.specs.declared.rows.UnitKind.TheVariants.{Job}
use Rattle.opc_board.specs.declared.rows.UnitRow.{UnitRow}
use Rattle.opc_state.specs.State.{State}
use Rattle.opc_state.specs.Changes.{with_units}
use Rattle.opc_state.specs.Members.{unit_cmp, with_unit, without_unit}
use Rattle.opc_store_schema.specs.Tables.{the_schema}
use Rattle.opc_store_schema.specs.Placed.{units_at}
use Rattle.opc_store_schema.specs.Represented.{Represents, Tabulates, unit_row}
use Rattle.opc_store_schema.proofs.Cast.{cast_text_or_null}
use Rattle.opc_store_schema.proofs.Keys.{unit_total}
use Rattle.opc_store_schema.proofs.OrderedBoard.{with_unit_ordered, without_unit_ordered}
use Rattle.opc_store_schema.proofs.OtherTables.{with_units as spares_units}

abbrev pub units : Keyed UnitRow
units = record {
  schema = the_schema;
  place = 3;
  table = units_at;
  width = 1;
  insert = codes "INSERT INTO units VALUES (?1, ?2, ?3, ?4, ?5, ?6)";
  update = codes "UPDATE units SET name = ?1, kind = ?2, member = ?3, cancelable = ?4, stopping = ?5, last = ?6 WHERE name = ?1";
  delete = codes "DELETE FROM units WHERE name = ?1";
  row = unit_row;
  cmp = unit_cmp;
}

texts : AreUnderstood units
unfolding understood everything
texts = record { insert_is = refl; update_is = refl; delete_is = refl; insert_plain = (refl, refl); update_plain = (refl, refl); delete_plain = (refl, refl) }

idle : (is_idle the_schema units_at.tree true ≡ true) × (is_idle the_schema units_at.tree false ≡ true)
unfolding same_name joined
idle = (refl, refl)

keyed : IsKeyed units
keyed = record {
  texts = texts;
  found = refl;
  simple = record { uncounted = refl; stampless = refl };
  idle = idle;
  stores = λ x. (refl, (refl, (cast_text_or_null _, (cast_int _, (cast_int _, (cast_text_or_null x.last_text, tt))))));
  values = λ x rest. refl;
  gives = λ x. refl;
  tested = λ x rest. refl;
  total = unit_total;
  picks = λ x y. and_true _ ∙ equal_texts y.name x.name;
}

pub unit_put : {S : Type 0} (g : Ghosts S) (old new : Held S) (s : State) → Represents (state g old).now s
    → (unit : UnitRow) → Puts g units.update units.insert (unit_row unit) old new
    → Represents (state g new).now (with_units (with_unit unit s.board.units) s)
unit_put g old new s was unit h =
    let it = puts g units keyed old new was.rows.schema s.board.units was.ordered.units was.rows.holds.units unit h in
    record { ordered = with_unit_ordered s was.ordered unit; rows = spares_units _ _ _ was.rows it.spares _ it.rows }

pub unit_removed : (old new : SqlState) (count : ℕ) (s : State) → Represents old.now s → (name : List ℕ)
    → Executes units.delete (Text name ∷ []) old new (Ok count)
    → Represents new.now (with_units (without_unit name s.board.units) s)
unit_removed old new count s was name h =
    let unit : UnitRow = record { name = name; kind = Job; cancelable = false; stopping = false; last_text = None } in
    let it = removes units keyed unit old new count was.rows.schema s.board.units was.ordered.units was.rows.holds.units h in
    record {
      ordered = without_unit_ordered s was.ordered name;
      rows = subst (λ (l : List UnitRow). Tabulates new.now (with_units l s))
          (filter_same _ _ (λ x. ap not (is_eq-slice_cmp x.name name)) s.board.units)
          (spares_units _ _ _ was.rows it.spares _ it.rows);
    }
