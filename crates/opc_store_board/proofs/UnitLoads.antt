-- What the queries on units read.
use Rattle.std.proofs.Common.{◌≡◌, ℕ, List, [], ◌∷◌, map, filter, codes, refl, ◌∙◌}
use Rattle.std.specs.Str.{bytes_eq}
use Rattle.sqlite.specs.Order.{Row}
use Rattle.sqlite.specs.declared.types.Value.TheVariants.{Text}
use Rattle.sqlite.specs.Listing.{understood}
use Rattle.sqlite.specs.State.{State as SqlState, Shown}
use Rattle.sqlite_tied.specs.Compute.{everything}
use Rattle.sqlite_value.proofs.OrderLemmas.{value_cmp-Text}
use Rattle.opc_store_sql.proofs.Asked.{Asked, IsAsked, by_columns, columns, returned, returned_all}
use Rattle.opc_store_sql.proofs.Keyed.{same_columns}
use Rattle.opc_store_sql.proofs.Values.{same_texts, and_true}
use Rattle.opc_board.specs.declared.rows.UnitRow.{UnitRow}
use Rattle.opc_state.specs.Members.{unit_cmp}
use Rattle.opc_state.specs.State.{State}
use Rattle.opc_store_schema.specs.Placed.{units_at}
use Rattle.opc_store_schema.specs.Tables.{the_schema}
use Rattle.opc_store_schema.specs.Represented.{Represents, unit_row}

-- ---- all of them

abbrev pub units : Asked
units = record {
  schema = the_schema;
  text = codes "SELECT name, kind, member, cancelable, stopping, last FROM units ORDER BY name";
  tree = units_at.tree;
  tests = [];
  project = columns 1 6;
  order = by_columns 1 1;
}

pub units_asked : IsAsked units
unfolding understood everything
units_asked = record { selects = refl; unlisted = refl; plain = (refl, refl); shows = λ schema base. refl }

pub units_returned : (old new : SqlState) (s : State) → Represents old.now s → (rows : List Row)
    → Shown units.text [] old new rows → rows ≡ map unit_row s.board.units
units_returned old new s was =
    returned_all units [] refl unit_row unit_cmp (λ _. refl) (λ x y h. rw (value_cmp-Text x.name y.name, h)) (λ _. refl)
    units_asked old new was.rows.schema s.board.units was.ordered.units was.rows.holds.units

-- ---- that of a name

abbrev pub unit : Asked
unit = record units { text = codes "SELECT name, kind, member, cancelable, stopping, last FROM units WHERE name = ?1 ORDER BY name"; tests = same_columns 0 1 }

pub unit_asked : IsAsked unit
unfolding understood everything
unit_asked = record { selects = refl; unlisted = refl; plain = (refl, refl); shows = λ schema base. refl }

pub unit_returned : (old new : SqlState) (s : State) → Represents old.now s → (name : List ℕ) (rows : List Row)
    → Shown unit.text (Text name ∷ []) old new rows
    → rows ≡ map unit_row (filter (λ (u : UnitRow). bytes_eq u.name name) s.board.units)
unit_returned old new s was name =
    returned unit (Text name ∷ []) refl unit_row unit_cmp (λ _. refl) (λ x y h. rw (value_cmp-Text x.name y.name, h))
    (λ u. bytes_eq u.name name) (λ u. and_true _ ∙ same_texts u.name name) unit_asked old new was.rows.schema
    s.board.units was.ordered.units was.rows.holds.units
