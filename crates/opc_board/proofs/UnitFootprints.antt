-- What happens to units depends on them, and on the devices that they have.
use Rattle.std.proofs.Common.{◌≡◌, Bool, true, false, not, cond, if◌then◌else◌, [], Option, Some, None, Err, filter, refl, ap, ap₂, ◌∙◌}
use Rattle.std.specs.Option.{is_some}
use Rattle.opc_rows.specs.Ordered.{put}
use Rattle.opc_rows.proofs.Orders.{all_weaker, ascends_filter, ascends_map, ascends_changed, ascends_put, find_none}
use Rattle.opc_board.specs.declared.board.BoardRows.{BoardRows}
use Rattle.opc_board.specs.declared.fault.BoardFault.TheVariants.{NoUnit, Halted, UnitExists}
use Rattle.opc_board.specs.declared.rows.DeviceRow.{DeviceRow}
use Rattle.opc_board.specs.declared.rows.UnitKind.{UnitKind}
use Rattle.opc_board.specs.declared.rows.UnitRow.{UnitRow}
use Rattle.opc_board.specs.Invariants.{Name, device_before, earlier, is, unit_at, unit_before}
use Rattle.opc_board.specs.Outcome.{BoardOutcome, done, faults_or}
use Rattle.opc_board.specs.Footprint.{IsInOrder, Footprint, HasLeaving, only, has_console_of, has_device_of, has_reply_of, has_unit_of}
use Rattle.opc_board.specs.Units.{
  at_unit,
  cancel,
  cancel_faults,
  cancel_user,
  cancel_user_faults,
  force,
  force_faults,
  freed,
  is_holder,
  job_end,
  job_in,
  kind_faults,
  modify,
  new_unit,
  stop,
  without_unit,
}
use Rattle.opc_board.proofs.Kept.{freed_in_place}
use Rattle.opc_board.proofs.Names.{earlier_on, earlier_or_later, is_mirrored}
use Rattle.opc_rows.proofs.Filtered.{changed_left, changed_seen, filter_left, filter_swap, map_left, map_seen, put_left, put_seen}
use Rattle.opc_board.proofs.Agreeing.{Agrees, found_then, faults_then, done_then, unit_seen, named, unnamed, is_not}

module _ (footprint : Footprint) where
  leaves : (name : Name) (b : BoardRows) → IsInOrder b → HasLeaving footprint b name
      → Agrees footprint b (done (without_unit name (only footprint b))) (done (without_unit name b))
  leaves name b order sees =
      done_then footprint b (without_unit name (only footprint b)) (without_unit name b) []
      (ap₂ (λ us ds. record b {
        units = us;
        devices = ds;
        consoles = filter (has_console_of footprint) b.consoles;
        replies = filter (has_reply_of footprint) b.replies;
      }) (filter_swap (λ u. not (is u.name name)) (has_unit_of footprint) b.units)
      (map_seen (freed name) (has_device_of footprint) (blind (λ d. has_device_of footprint d) (λ d e. refl))
      b.devices))
      (record {
        units = ascends_filter unit_before _ b.units order.units;
        devices = ascends_map device_before (freed name) (freed_in_place name) b.devices order.devices;
        consoles = order.consoles;
        replies = order.replies;
      })
      (record {
        units = filter_left (λ u. not (is u.name name)) (λ u. not (has_unit_of footprint u))
            (λ u out. unnamed footprint.units name u.name sees.0 (is_not (is u.name name) out)) b.units;
        devices = map_left (freed name) (λ d. not (has_device_of footprint d))
            (blind (λ d. not (has_device_of footprint d)) (λ d e. refl)) b.devices
            (all_weaker _ (λ d. not (has_device_of footprint d) ≡ true → freed name d ≡ d) (λ d held. others d held)
            b.devices sees.1);
        consoles = refl;
        replies = refl;
      })
    where
      blind : (s : DeviceRow → Bool) → ((d : DeviceRow) (unit : Option Name) → s (record d { unit = unit }) ≡ s d) → (d : DeviceRow) → s (freed name d) ≡ s d
      blind s by d = elim (is_holder name d.unit) as (λ a. s (cond a (record d { unit = None }) d) ≡ s d) [ true ↦ by d None | false ↦ refl ]

      others : (d : DeviceRow) → (is_holder name d.unit ≡ true → has_device_of footprint d ≡ true) → not (has_device_of footprint d) ≡ true → freed name d ≡ d
      others d held out = elim (is_holder name d.unit) as (λ a. is_holder name d.unit ≡ a → cond a (record d { unit = None }) d ≡ d) [
        | true ↦ λ here. let there : has_device_of footprint d ≡ true = held here in absurd (cc)
        | false ↦ λ here. refl
      ] refl

  pub cancel_local : (name : Name) (b : BoardRows) → IsInOrder b → HasLeaving footprint b name
      → Agrees footprint b (cancel name (only footprint b)) (cancel name b)
  cancel_local name b order sees =
      found_then footprint b NoUnit (unit_at (only footprint b) name) (unit_at b name)
      (unit_seen footprint b name sees.0)
      (λ unit. faults_or (cancel_faults unit) (done (without_unit name (only footprint b))))
      (λ unit. faults_or (cancel_faults unit) (done (without_unit name b)))
      (λ unit at. faults_then footprint b (cancel_faults unit) _ _ (leaves name b order sees))

  pub cancel_user_local : (name : Name) (b : BoardRows) → IsInOrder b → HasLeaving footprint b name
      → Agrees footprint b (cancel_user name (only footprint b)) (cancel_user name b)
  cancel_user_local name b order sees =
      found_then footprint b NoUnit (unit_at (only footprint b) name) (unit_at b name)
      (unit_seen footprint b name sees.0)
      (λ unit. faults_or (cancel_user_faults unit) (done (without_unit name (only footprint b))))
      (λ unit. faults_or (cancel_user_faults unit) (done (without_unit name b)))
      (λ unit at. faults_then footprint b (cancel_user_faults unit) _ _ (leaves name b order sees))

  pub force_local : (name : Name) (b : BoardRows) → IsInOrder b → HasLeaving footprint b name
      → Agrees footprint b (force name (only footprint b)) (force name b)
  force_local name b order sees =
      found_then footprint b NoUnit (unit_at (only footprint b) name) (unit_at b name)
      (unit_seen footprint b name sees.0)
      (λ unit. faults_or (force_faults unit) (done (without_unit name (only footprint b))))
      (λ unit. faults_or (force_faults unit) (done (without_unit name b)))
      (λ unit at. faults_then footprint b (force_faults unit) _ _ (leaves name b order sees))

  pub job_end_local : (name : Name) (b : BoardRows) → IsInOrder b → HasLeaving footprint b name
      → Agrees footprint b (job_end name (only footprint b)) (job_end name b)
  job_end_local name b order sees =
      found_then footprint b NoUnit (unit_at (only footprint b) name) (unit_at b name)
      (unit_seen footprint b name sees.0) (λ unit. done (without_unit name (only footprint b)))
      (λ unit. done (without_unit name b))
      (λ unit at. leaves name b order sees)

  -- a unit that comes is before or after each that there is
  comes : (unit : UnitRow) (b : BoardRows) → IsInOrder b → is_some (unit_at b unit.name) ≡ false → footprint.units unit.name ≡ true
      → Agrees footprint b (done (record (only footprint b) { units = put unit_before unit (only footprint b).units }))
      (done (record b { units = put unit_before unit b.units }))
  comes unit b order absent sees =
      done_then footprint b (record (only footprint b) { units = put unit_before unit (only footprint b).units })
      (record b { units = put unit_before unit b.units }) []
      (ap (λ us. record (only footprint b) { units = us })
      (put_seen unit_before (λ x y z. earlier_on x.name y.name z.name) unit (has_unit_of footprint) sees b.units
      order.units))
      (record {
        units = ascends_put unit_before (λ x y z. earlier_on x.name y.name z.name) unit b.units
            (all_weaker _ (λ u. unit_before unit u ≡ false → unit_before u unit ≡ true)
            (λ u differ later. earlier_or_later unit.name u.name (is_mirrored u.name unit.name differ) later) b.units
            (find_none (λ u. is u.name unit.name) b.units absent)) order.units;
        devices = order.devices;
        consoles = order.consoles;
        replies = order.replies;
      })
      (record { units = put_left unit_before unit (λ u. not (has_unit_of footprint u)) (ap not sees) b.units; devices = refl; consoles = refl; replies = refl })

  pub job_in_local : (name : Name) (kind : UnitKind) (cancelable : Bool) (b : BoardRows) → IsInOrder b
      → footprint.units name ≡ true → Agrees footprint b (job_in name kind cancelable (only footprint b))
      (job_in name kind cancelable b)
  job_in_local name kind cancelable b order sees = rw (unit_seen footprint b name sees) (go b.halted (is_some (unit_at b name)) refl)
    where
      part : BoardOutcome
      part = done (record (only footprint b) { units = put unit_before (new_unit name kind cancelable) (only footprint b).units })

      whole : BoardOutcome
      whole = done (record b { units = put unit_before (new_unit name kind cancelable) b.units })

      go : (halted there : Bool) → is_some (unit_at b name) ≡ there
          → Agrees footprint b (if halted then Err Halted else if there then Err UnitExists else part)
          (if halted then Err Halted else if there then Err UnitExists else whole)
      go true there at = (refl, tt)
      go false true at = (refl, tt)
      go false false at = comes (new_unit name kind cancelable) b order at sees

  -- a unit changed under its name
  changes : (name : Name) (change : UnitRow → UnitRow) (b : BoardRows) → ((u : UnitRow) → (change u).name ≡ u.name)
      → IsInOrder b → footprint.units name ≡ true
      → Agrees footprint b (done (at_unit name change (only footprint b))) (done (at_unit name change b))
  changes name change b same order sees =
      done_then footprint b (at_unit name change (only footprint b)) (at_unit name change b) []
      (ap (λ us. record (only footprint b) { units = us })
      (changed_seen (λ u. is u.name name) change (has_unit_of footprint)
      (λ u here. (
        named footprint.units name u.name sees here,
        ap footprint.units (same u)
            ∙ named footprint.units name u.name sees here,
      )) b.units))
      (record {
        units = ascends_changed unit_before _ change (λ x y here. ap (λ n. earlier n y.name) (same x))
            (λ x y here. ap (λ n. earlier x.name n) (same y)) b.units order.units;
        devices = order.devices;
        consoles = order.consoles;
        replies = order.replies;
      })
      (record {
        units = changed_left (λ u. is u.name name) change (λ u. not (has_unit_of footprint u))
            (λ u here. (
              unnamed footprint.units name u.name sees here,
              ap (λ n. not (footprint.units n)) (same u)
                  ∙ unnamed footprint.units name u.name sees here,
            )) b.units;
        devices = refl;
        consoles = refl;
        replies = refl;
      })

  pub stop_local : (name : Name) (b : BoardRows) → IsInOrder b → footprint.units name ≡ true → Agrees footprint b (stop name (only footprint b)) (stop name b)
  stop_local name b order sees =
      found_then footprint b NoUnit (unit_at (only footprint b) name) (unit_at b name) (unit_seen footprint b name sees)
      (λ unit. faults_or (kind_faults unit)
      (done (at_unit name (λ u. record u { stopping = true }) (only footprint b))))
      (λ unit. faults_or (kind_faults unit) (done (at_unit name (λ u. record u { stopping = true }) b)))
      (λ unit at. faults_then footprint b (kind_faults unit) _ _ (changes name (λ (u : UnitRow). record u { stopping = true }) b (λ u. refl) order sees))

  pub modify_local : (name text : Name) (b : BoardRows) → IsInOrder b → footprint.units name ≡ true
      → Agrees footprint b (modify name text (only footprint b)) (modify name text b)
  modify_local name text b order sees =
      found_then footprint b NoUnit (unit_at (only footprint b) name) (unit_at b name) (unit_seen footprint b name sees)
      (λ unit. faults_or (kind_faults unit)
      (done (at_unit name (λ u. record u { last_text = Some text }) (only footprint b))))
      (λ unit. faults_or (kind_faults unit) (done (at_unit name (λ u. record u { last_text = Some text }) b)))
      (λ unit at. faults_then footprint b (kind_faults unit) _ _ (changes name (λ (u : UnitRow). record u { last_text = Some text }) b (λ u. refl) order sees))
