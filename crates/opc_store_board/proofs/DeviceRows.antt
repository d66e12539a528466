-- The table of devices, and what its statements make of a state.
use Rattle.std.proofs.Common.{◌≡◌, ℕ, List, [], ◌∷◌, true, false, None, not, codes, Ok, refl, ap, subst, ◌∙◌}
use Rattle.std.proofs.lemmas.Map.Text.{is_eq-slice_cmp}
use Rattle.sqlite.specs.declared.types.Value.TheVariants.{Text}
use Rattle.sqlite.specs.Held.{Held, state}
use Rattle.sqlite.specs.Listing.{understood}
use Rattle.sqlite.specs.State.{State as SqlState, Executes}
use Rattle.sqlite_keyed.proofs.ListLemmas.{filter_same}
use Rattle.sqlite_schema.specs.Names.{same_name}
use Rattle.sqlite_tied.specs.Compute.{everything}
use Rattle.sqlite_trees.specs.declared.store.Store.{Ghosts}
use Rattle.sqlite_value.specs.Keys.{joined}
use Rattle.opc_store_sql.specs.Steps.{Puts}
use Rattle.opc_store_sql.proofs.Keyed.{Keyed, IsKeyed, AreUnderstood, is_idle, removes, puts}
use Rattle.opc_store_sql.proofs.Steps.{cast_int}
use Rattle.opc_store_sql.proofs.Values.{equal_texts, and_true}
use Rattle.opc_board.specs.declared.rows.DeviceRow.{DeviceRow}
use Rattle.opc_state.specs.State.{State}
use Rattle.opc_state.specs.Changes.{with_devices}
use Rattle.opc_state.specs.Members.{device_cmp, with_device, without_device}
use Rattle.opc_store_schema.specs.Tables.{the_schema}
use Rattle.opc_store_schema.specs.Placed.{devices_at}
use Rattle.opc_store_schema.specs.Represented.{Represents, Tabulates, device_row}
use Rattle.opc_store_schema.proofs.Cast.{cast_text_or_null}
use Rattle.opc_store_schema.proofs.Keys.{device_total}
use Rattle.opc_store_schema.proofs.OrderedBoard.{with_device_ordered, without_device_ordered}
use Rattle.opc_store_schema.proofs.OtherTables.{with_devices as spares_devices}

abbrev pub devices : Keyed DeviceRow
devices = record {
  schema = the_schema;
  place = 4;
  table = devices_at;
  width = 1;
  insert = codes "INSERT INTO devices VALUES (?1, ?2, ?3, ?4)";
  update = codes "UPDATE devices SET number = ?1, online = ?2, volume = ?3, unit = ?4 WHERE number = ?1";
  delete = codes "DELETE FROM devices WHERE number = ?1";
  row = device_row;
  cmp = device_cmp;
}

texts : AreUnderstood devices
unfolding understood everything
texts = record { insert_is = refl; update_is = refl; delete_is = refl; insert_plain = (refl, refl); update_plain = (refl, refl); delete_plain = (refl, refl) }

idle : (is_idle the_schema devices_at.tree true ≡ true) × (is_idle the_schema devices_at.tree false ≡ true)
unfolding same_name joined
idle = (refl, refl)

keyed : IsKeyed devices
keyed = record {
  texts = texts;
  found = refl;
  simple = record { uncounted = refl; stampless = refl };
  idle = idle;
  stores = λ x. (refl, (cast_int _, (cast_text_or_null x.volume, (cast_text_or_null x.unit, tt))));
  values = λ x rest. refl;
  gives = λ x. refl;
  tested = λ x rest. refl;
  total = device_total;
  picks = λ x y. and_true _ ∙ equal_texts y.number x.number;
}

pub device_put : {S : Type 0} (g : Ghosts S) (old new : Held S) (s : State) → Represents (state g old).now s
    → (device : DeviceRow) → Puts g devices.update devices.insert (device_row device) old new
    → Represents (state g new).now (with_devices (with_device device s.board.devices) s)
device_put g old new s was device h =
    let it = puts g devices keyed old new was.rows.schema s.board.devices was.ordered.devices was.rows.holds.devices device h in
    record { ordered = with_device_ordered s was.ordered device; rows = spares_devices _ _ _ was.rows it.spares _ it.rows }

pub device_removed : (old new : SqlState) (count : ℕ) (s : State) → Represents old.now s → (number : List ℕ)
    → Executes devices.delete (Text number ∷ []) old new (Ok count)
    → Represents new.now (with_devices (without_device number s.board.devices) s)
device_removed old new count s was number h =
    let device : DeviceRow = record { number = number; online = false; volume = None; unit = None } in
    let it = removes devices keyed device old new count was.rows.schema s.board.devices was.ordered.devices was.rows.holds.devices h in
    record {
      ordered = without_device_ordered s was.ordered number;
      rows = subst (λ (l : List DeviceRow). Tabulates new.now (with_devices l s))
          (filter_same _ _ (λ x. ap not (is_eq-slice_cmp x.number number)) s.board.devices)
          (spares_devices _ _ _ was.rows it.spares _ it.rows);
    }
