-- What happens to devices depends on them.
use Rattle.std.proofs.Common.{◌≡◌, Bool, true, false, not, if◌then◌else◌, [], Some, None, Err, filter, refl, ap, sym, ◌∙◌}
use Rattle.std.specs.Option.{is_some}
use Rattle.opc_rows.specs.Ordered.{put}
use Rattle.opc_rows.proofs.Orders.{all_weaker, ascends_changed, ascends_put, find_none}
use Rattle.opc_board.specs.declared.board.BoardRows.{BoardRows}
use Rattle.opc_board.specs.declared.fault.BoardFault.TheVariants.{NoUnit, NoDevice, DeviceState}
use Rattle.opc_board.specs.declared.rows.DeviceRow.{DeviceRow}
use Rattle.opc_board.specs.Devices.{
  allocate,
  allocate_faults,
  attach,
  emptied,
  free,
  free_faults,
  loaded,
  mount,
  mount_faults,
  new_device,
  offline_faults,
  online_faults,
  swap,
  swap_faults,
  unload,
  unload_faults,
  vary_offline,
  vary_online,
  with_device,
}
use Rattle.opc_board.specs.Invariants.{Name, device_at, device_before, earlier, is, unit_at}
use Rattle.opc_board.specs.Outcome.{BoardOutcome, ◌>>=◌, done, faults_or, found}
use Rattle.opc_board.specs.Footprint.{IsInOrder, Footprint, only, has_device_of}
use Rattle.opc_board.proofs.Names.{is_same_name, earlier_on, earlier_or_later, is_mirrored}
use Rattle.opc_rows.proofs.Filtered.{changed_left, changed_seen, put_left, put_seen}
use Rattle.opc_board.proofs.Agreeing.{Agrees, found_then, faults_then, done_then, unit_seen, device_seen, named, unnamed, found_named}

module _ (footprint : Footprint) where
  -- a row in place of the one of its number
  replaced_part : (row : DeviceRow) (b : BoardRows) → footprint.devices row.number ≡ true
      → with_device row (only footprint b) ≡ only footprint (with_device row b)
  replaced_part row b sees =
      ap (λ ds. record (only footprint b) { devices = ds })
      (changed_seen (λ d. is d.number row.number) (λ d. row) (has_device_of footprint)
      (λ d here. (named footprint.devices row.number d.number sees here, sees)) b.devices)

  replaced_order : (row : DeviceRow) (b : BoardRows) → IsInOrder b → IsInOrder (with_device row b)
  replaced_order row b order = record {
    units = order.units;
    devices = ascends_changed device_before (λ d. is d.number row.number) (λ d. row)
        (λ x y here. ap (λ n. earlier n y.number) (sym (is_same_name x.number row.number here)))
        (λ x y here. ap (λ n. earlier x.number n) (sym (is_same_name y.number row.number here))) b.devices
        order.devices;
    consoles = order.consoles;
    replies = order.replies;
  }

  replaced_left : (row : DeviceRow) (b : BoardRows) → footprint.devices row.number ≡ true
      → filter (λ d. not (has_device_of footprint d)) (with_device row b).devices ≡ filter
      (λ d. not (has_device_of footprint d)) b.devices
  replaced_left row b sees = changed_left (λ d. is d.number row.number) (λ d. row)
      (λ d. not (has_device_of footprint d))
      (λ d here. (unnamed footprint.devices row.number d.number sees here, ap not sees)) b.devices

  replaces : (row : DeviceRow) (b : BoardRows) → IsInOrder b → footprint.devices row.number ≡ true
      → Agrees footprint b (done (with_device row (only footprint b))) (done (with_device row b))
  replaces row b order sees =
      done_then footprint b (with_device row (only footprint b)) (with_device row b) [] (replaced_part row b sees) (replaced_order row b order) (record {
        units = refl;
        devices = replaced_left row b sees;
        consoles = refl;
        replies = refl;
      })

  -- one row in place of another, and one more
  replaces_both : (one other : DeviceRow) (b : BoardRows) → IsInOrder b → footprint.devices one.number ≡ true
      → footprint.devices other.number ≡ true
      → Agrees footprint b (done (with_device other (with_device one (only footprint b))))
      (done (with_device other (with_device one b)))
  replaces_both one other b order first second =
      done_then footprint b (with_device other (with_device one (only footprint b))) (with_device other (with_device one b)) []
      (ap (with_device other) (replaced_part one b first) ∙ replaced_part other (with_device one b) second)
      (replaced_order other (with_device one b) (replaced_order one b order))
      (record { units = refl; devices = replaced_left other (with_device one b) second ∙ replaced_left one b first; consoles = refl; replies = refl })

  -- a device that is found is in the footprint
  found_device : (number : Name) (b : BoardRows) (device : DeviceRow) → footprint.devices number ≡ true
      → device_at b number ≡ Some device → footprint.devices device.number ≡ true
  found_device number b device sees at =
      named footprint.devices number device.number sees
      (found_named (λ (d : DeviceRow). d.number) number device b.devices at)

  pub vary_online_local : (number : Name) (b : BoardRows) → IsInOrder b → footprint.devices number ≡ true
      → Agrees footprint b (vary_online number (only footprint b)) (vary_online number b)
  vary_online_local number b order sees =
      found_then footprint b NoDevice (device_at (only footprint b) number) (device_at b number) (device_seen footprint b number sees)
      (λ device. faults_or (online_faults device)
      (done (with_device (record device { online = true }) (only footprint b))))
      (λ device. faults_or (online_faults device) (done (with_device (record device { online = true }) b)))
      (λ device at. faults_then footprint b (online_faults device) _ _
      (replaces (record device { online = true }) b order (found_device number b device sees at)))

  pub vary_offline_local : (number : Name) (b : BoardRows) → IsInOrder b → footprint.devices number ≡ true
      → Agrees footprint b (vary_offline number (only footprint b)) (vary_offline number b)
  vary_offline_local number b order sees =
      found_then footprint b NoDevice (device_at (only footprint b) number) (device_at b number) (device_seen footprint b number sees)
      (λ device. faults_or (offline_faults device)
      (done (with_device (record device { online = false }) (only footprint b))))
      (λ device. faults_or (offline_faults device) (done (with_device (record device { online = false }) b)))
      (λ device at. faults_then footprint b (offline_faults device) _ _
      (replaces (record device { online = false }) b order (found_device number b device sees at)))

  pub mount_local : (number volume : Name) (b : BoardRows) → IsInOrder b → footprint.devices number ≡ true
      → Agrees footprint b (mount number volume (only footprint b)) (mount number volume b)
  mount_local number volume b order sees =
      found_then footprint b NoDevice (device_at (only footprint b) number) (device_at b number) (device_seen footprint b number sees)
      (λ device. faults_or (mount_faults device)
      (done (with_device (record device { volume = Some volume }) (only footprint b))))
      (λ device. faults_or (mount_faults device) (done (with_device (record device { volume = Some volume }) b)))
      (λ device at. faults_then footprint b (mount_faults device) _ _
      (replaces (record device { volume = Some volume }) b order (found_device number b device sees at)))

  pub unload_local : (number : Name) (b : BoardRows) → IsInOrder b → footprint.devices number ≡ true
      → Agrees footprint b (unload number (only footprint b)) (unload number b)
  unload_local number b order sees =
      found_then footprint b NoDevice (device_at (only footprint b) number) (device_at b number) (device_seen footprint b number sees)
      (λ device. faults_or (unload_faults device)
      (done (with_device (record device { volume = None }) (only footprint b))))
      (λ device. faults_or (unload_faults device) (done (with_device (record device { volume = None }) b)))
      (λ device at. faults_then footprint b (unload_faults device) _ _
      (replaces (record device { volume = None }) b order (found_device number b device sees at)))

  pub free_local : (number : Name) (b : BoardRows) → IsInOrder b → footprint.devices number ≡ true
      → Agrees footprint b (free number (only footprint b)) (free number b)
  free_local number b order sees =
      found_then footprint b NoDevice (device_at (only footprint b) number) (device_at b number) (device_seen footprint b number sees)
      (λ device. faults_or (free_faults device) (done (with_device (record device { unit = None }) (only footprint b))))
      (λ device. faults_or (free_faults device) (done (with_device (record device { unit = None }) b)))
      (λ device at. faults_then footprint b (free_faults device) _ _ (replaces (record device { unit = None }) b order (found_device number b device sees at)))

  pub allocate_local : (number name : Name) (b : BoardRows) → IsInOrder b → footprint.devices number ≡ true
      → footprint.units name ≡ true → Agrees footprint b (allocate number name (only footprint b))
      (allocate number name b)
  allocate_local number name b order sees there =
      found_then footprint b NoDevice (device_at (only footprint b) number) (device_at b number) (device_seen footprint b number sees)
      (λ device. found NoUnit (unit_at (only footprint b) name) >>= λ unit. faults_or (allocate_faults device)
      (done (with_device (record device { unit = Some name }) (only footprint b))))
      (λ device. found NoUnit (unit_at b name) >>= λ unit. faults_or (allocate_faults device) (done (with_device (record device { unit = Some name }) b)))
      (λ device at. found_then footprint b NoUnit (unit_at (only footprint b) name) (unit_at b name) (unit_seen footprint b name there)
      (λ unit. faults_or (allocate_faults device)
      (done (with_device (record device { unit = Some name }) (only footprint b))))
      (λ unit. faults_or (allocate_faults device) (done (with_device (record device { unit = Some name }) b)))
      (λ unit is_there. faults_then footprint b (allocate_faults device) _ _
      (replaces (record device { unit = Some name }) b order (found_device number b device sees at))))

  pub swap_local : (from to : Name) (b : BoardRows) → IsInOrder b → footprint.devices from ≡ true
      → footprint.devices to ≡ true → Agrees footprint b (swap from to (only footprint b)) (swap from to b)
  swap_local from to b order first second =
      found_then footprint b NoDevice (device_at (only footprint b) from) (device_at b from) (device_seen footprint b from first)
      (λ source. found NoDevice (device_at (only footprint b) to) >>= λ target. faults_or (swap_faults source target)
      (done (with_device (loaded source target) (with_device (emptied source) (only footprint b)))))
      (λ source. found NoDevice (device_at b to) >>= λ target. faults_or (swap_faults source target)
      (done (with_device (loaded source target) (with_device (emptied source) b))))
      (λ source at. found_then footprint b NoDevice (device_at (only footprint b) to) (device_at b to) (device_seen footprint b to second)
      (λ target. faults_or (swap_faults source target)
      (done (with_device (loaded source target) (with_device (emptied source) (only footprint b)))))
      (λ target. faults_or (swap_faults source target)
      (done (with_device (loaded source target) (with_device (emptied source) b))))
      (λ target there. faults_then footprint b (swap_faults source target) _ _
      (replaces_both (emptied source) (loaded source target) b order (found_device from b source first at)
      (found_device to b target second there))))

  attached : (row : DeviceRow) (b : BoardRows) → IsInOrder b → is_some (device_at b row.number) ≡ false → footprint.devices row.number ≡ true
      → Agrees footprint b
      (done (record (only footprint b) { devices = put device_before row (only footprint b).devices }))
      (done (record b { devices = put device_before row b.devices }))
  attached row b order absent sees =
      done_then footprint b (record (only footprint b) { devices = put device_before row (only footprint b).devices })
      (record b { devices = put device_before row b.devices }) []
      (ap (λ ds. record (only footprint b) { devices = ds })
      (put_seen device_before (λ x y z. earlier_on x.number y.number z.number) row (has_device_of footprint) sees
      b.devices order.devices))
      (record {
        units = order.units;
        devices = ascends_put device_before (λ x y z. earlier_on x.number y.number z.number) row b.devices
            (all_weaker _ (λ d. device_before row d ≡ false → device_before d row ≡ true)
            (λ d differ later. earlier_or_later row.number d.number (is_mirrored d.number row.number differ) later)
            b.devices (find_none (λ d. is d.number row.number) b.devices absent)) order.devices;
        consoles = order.consoles;
        replies = order.replies;
      })
      (record {
        units = refl;
        devices = put_left device_before row (λ d. not (has_device_of footprint d)) (ap not sees) b.devices;
        consoles = refl;
        replies = refl;
      })

  pub attach_local : (number : Name) (b : BoardRows) → IsInOrder b → footprint.devices number ≡ true
      → Agrees footprint b (attach number (only footprint b)) (attach number b)
  attach_local number b order sees = rw (device_seen footprint b number sees) (go (is_some (device_at b number)) refl)
    where
      part : BoardOutcome
      part = done (record (only footprint b) { devices = put device_before (new_device number) (only footprint b).devices })

      whole : BoardOutcome
      whole = done (record b { devices = put device_before (new_device number) b.devices })

      go : (there : Bool) → is_some (device_at b number) ≡ there
          → Agrees footprint b (if there then Err DeviceState else part) (if there then Err DeviceState else whole)
      go true at = (refl, tt)
      go false at = attached (new_device number) b order at sees
