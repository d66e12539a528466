-- What the queries on devices read.
use Rattle.std.proofs.Common.{◌≡◌, ℕ, List, [], ◌∷◌, map, filter, codes, Some, Option, refl, ap, ◌∙◌}
use Rattle.std.specs.Str.{bytes_eq}
use Rattle.std.proofs.lemmas.Cmp.{tied_itself}
use Rattle.sqlite.specs.Order.{Row}
use Rattle.sqlite.specs.declared.types.Value.TheVariants.{Text}
use Rattle.sqlite.specs.Listing.{understood}
use Rattle.sqlite.specs.State.{State as SqlState, Shown}
use Rattle.sqlite_tied.specs.Compute.{everything}
use Rattle.sqlite_value.proofs.OrderLemmas.{value_cmp-Text}
use Rattle.sqlite.specs.Term.{col, op2}
use Rattle.sqlite_sql.specs.declared.ops.BinaryOp.TheVariants.{Compare}
use Rattle.sqlite_sql.specs.declared.ops.CompareOp.TheVariants.{Eq}
use Rattle.sqlite_value.specs.Keys.{ascending}
use Rattle.sqlite_value.specs.declared.keys.Collation.TheVariants.{Binary}
use Rattle.opc_store_sql.proofs.Asked.{Asked, IsAsked, by_columns, columns, returned, returned_all}
use Rattle.opc_store_sql.proofs.Fixed.{returned_fixed}
use Rattle.opc_store_sql.proofs.Keyed.{same_columns}
use Rattle.opc_store_sql.proofs.Sets.{text_total}
use Rattle.opc_store_sql.proofs.Values.{same_texts, and_true}
use Rattle.opc_board.specs.Units.{is_holder}
use Rattle.opc_board.specs.declared.rows.DeviceRow.{DeviceRow}
use Rattle.opc_state.specs.Loads.{devices_of as devices_of_unit}
use Rattle.opc_state.specs.Members.{device_cmp}
use Rattle.opc_state.specs.State.{State}
use Rattle.opc_store_schema.specs.Placed.{devices_at}
use Rattle.opc_store_schema.specs.Tables.{the_schema}
use Rattle.opc_store_schema.specs.Represented.{Represents, device_row}
use Rattle.opc_store_board.proofs.Holders.{equals_holder, the_holder}

-- ---- all of them

abbrev pub devices : Asked
devices = record {
  schema = the_schema;
  text = codes "SELECT number, online, volume, unit FROM devices ORDER BY number";
  tree = devices_at.tree;
  tests = [];
  project = columns 1 4;
  order = by_columns 1 1;
}

pub devices_asked : IsAsked devices
unfolding understood everything
devices_asked = record { selects = refl; unlisted = refl; plain = (refl, refl); shows = λ schema base. refl }

pub devices_returned : (old new : SqlState) (s : State) → Represents old.now s → (rows : List Row)
    → Shown devices.text [] old new rows → rows ≡ map device_row s.board.devices
devices_returned old new s was =
    returned_all devices [] refl device_row device_cmp (λ _. refl) (λ x y h. rw (value_cmp-Text x.number y.number, h))
    (λ _. refl) devices_asked old new was.rows.schema s.board.devices was.ordered.devices was.rows.holds.devices

-- ---- that of a number

abbrev pub device : Asked
device = record devices { text = codes "SELECT number, online, volume, unit FROM devices WHERE number = ?1 ORDER BY number"; tests = same_columns 0 1 }

pub device_asked : IsAsked device
unfolding understood everything
device_asked = record { selects = refl; unlisted = refl; plain = (refl, refl); shows = λ schema base. refl }

pub device_returned : (old new : SqlState) (s : State) → Represents old.now s → (number : List ℕ) (rows : List Row)
    → Shown device.text (Text number ∷ []) old new rows
    → rows ≡ map device_row (filter (λ (d : DeviceRow). bytes_eq d.number number) s.board.devices)
device_returned old new s was number =
    returned device (Text number ∷ []) refl device_row device_cmp (λ _. refl)
    (λ x y h. rw (value_cmp-Text x.number y.number, h)) (λ d. bytes_eq d.number number)
    (λ d. and_true _ ∙ same_texts d.number number) device_asked old new was.rows.schema s.board.devices
    was.ordered.devices was.rows.holds.devices

-- ---- those that a unit has

abbrev pub devices_of : Asked
devices_of = record devices {
  text = codes "SELECT number, online, volume, unit FROM devices WHERE unit = ?1 ORDER BY unit, number";
  tests = op2 (Compare Eq Binary) (col 1 4) (col 0 0) ∷ [];
  order = (col 1 4, ascending Binary) ∷ by_columns 1 1;
}

pub devices_of_asked : IsAsked devices_of
unfolding understood everything
devices_of_asked = record { selects = refl; unlisted = refl; plain = (refl, refl); shows = λ schema base. refl }

-- the row of a device, as the unit has it
abbrev held : List ℕ → DeviceRow → Row
held unit d = device_row (record d { unit = Some unit })

pub devices_of_returned : (old new : SqlState) (s : State) → Represents old.now s → (unit : List ℕ) (rows : List Row)
    → Shown devices_of.text (Text unit ∷ []) old new rows → rows ≡ map device_row (devices_of_unit s.board unit)
devices_of_returned old new s was unit rows h =
    returned_fixed devices_of (Text unit ∷ []) refl device_row (held unit) device_cmp (λ _. refl)
    (λ x y h. rw (value_cmp-Text unit unit, tied_itself text_total unit, value_cmp-Text x.number y.number, h))
    (λ d. is_holder unit d.unit) (λ d. and_true _ ∙ equals_holder unit d.unit)
    (λ d h. ap (λ (u : Option (List ℕ)). device_row (record d { unit = u })) (the_holder unit d.unit h))
    old new was.rows.schema s.board.devices was.ordered.devices was.rows.holds.devices rows h devices_of_asked
