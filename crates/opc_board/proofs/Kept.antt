-- The invariants of a board are kept.
use Rattle.std.proofs.Common.{◌≡◌, ℕ, Some, None, Option, Bool, true, false, not, cond, List, refl, ap, sym, ◌∙◌, subst, filter, ◌==◌, arith}
use Rattle.std.specs.Option.{is_some}
use Rattle.std.specs.List.{list_any}
use Rattle.std.specs.Ordering.{nat_cmp, is_lt}
use Rattle.std.proofs.lemmas.Bool.{false≢true}
use Rattle.std.proofs.lemmas.Bool.Decides.{nat_tests}
use Rattle.opc_rows.specs.Ordered.{put, changed}
use Rattle.opc_rows.proofs.Orders.{
  all_weaker,
  all_map,
  all_put,
  all_changed,
  all_found,
  ascends_filter,
  ascends_map,
  ascends_changed,
  ascends_put,
  find_put,
  find_filter,
  find_none,
  find_changed,
  changed_is_map,
  any_of_map,
}
use Rattle.opc_board.specs.declared.rows.UnitRow.{UnitRow}
use Rattle.opc_board.specs.declared.rows.DeviceRow.{DeviceRow}
use Rattle.opc_board.specs.declared.rows.ConsoleRow.{ConsoleRow}
use Rattle.opc_board.specs.declared.rows.ReplyRow.{ReplyRow}
use Rattle.opc_board.specs.declared.board.BoardRows.{BoardRows}
use Rattle.opc_board.specs.Invariants.{
  Name,
  is,
  earlier,
  unit_before,
  device_before,
  console_before,
  reply_before,
  unit_in,
  unit_at,
  device_at,
  console_at,
  reply_at,
  IsHeld,
  IsHeldRightly,
  IsBoard,
  is_master,
  has_master,
}
use Rattle.opc_board.specs.Units.{is_holder, freed, without_unit, at_unit}
use Rattle.opc_board.specs.Devices.{with_device}
use Rattle.opc_board.specs.Consoles.{replaced, with_console, at_console}
use Rattle.opc_board.proofs.Names.{is_same_name, earlier_on, earlier_or_later, is_mirrored, not_earlier}

-- units

pub freed_in_place : (name : Name) (x y : DeviceRow) → device_before (freed name x) (freed name y) ≡ device_before x y
freed_in_place name x y =
    elim (is_holder name x.unit) as (λ a. device_before (cond a (record x { unit = None }) x) (freed name y) ≡ device_before x y) [
      | true ↦ elim (is_holder name y.unit) as
          (λ a. device_before (record x { unit = None }) (cond a (record y { unit = None }) y) ≡ device_before x y)
          [ true ↦ refl | false ↦ refl ]
      | false ↦ elim (is_holder name y.unit) as (λ a. device_before x (cond a (record y { unit = None }) y) ≡ device_before x y) [ true ↦ refl | false ↦ refl ]
    ]

-- a holder that is not the one that leaves is still on the board
other_held : (name : Name) (units : List UnitRow) (online : Bool) (unit : Option Name) → is_holder name unit ≡ false
    → IsHeld units online unit → IsHeld (filter (λ u. not (is u.name name)) units) online unit
other_held name units online None other held = tt
other_held name units online (Some h) other held = (
  held.0,
  find_filter (λ u. is u.name h) (λ u. not (is u.name name))
      (λ u same. ap not (ap (λ n. is n name) (is_same_name u.name h same) ∙ other)) units held.1,
)

freed_held : (name : Name) (units : List UnitRow) (d : DeviceRow) → IsHeldRightly units d
    → IsHeldRightly (filter (λ u. not (is u.name name)) units) (freed name d)
freed_held name units d held =
    elim (is_holder name d.unit) as (λ a. is_holder name d.unit ≡ a
    → IsHeldRightly (filter (λ u. not (is u.name name)) units) (cond a (record d { unit = None }) d)) [
      | true ↦ λ e. tt
      | false ↦ λ e. other_held name units d.online d.unit e held
    ] refl

pub without_unit_kept : (name : Name) (b : BoardRows) → IsBoard b → IsBoard (without_unit name b)
without_unit_kept name b invariants = record {
  units_rise = ascends_filter unit_before _ b.units invariants.units_rise;
  devices_rise = ascends_map device_before (freed name) (freed_in_place name) b.devices invariants.devices_rise;
  consoles_rise = invariants.consoles_rise;
  replies_rise = invariants.replies_rise;
  held = all_map (IsHeldRightly b.units) _ (freed name) (freed_held name b.units) b.devices invariants.held;
}

-- a device stays held if its unit stays on the board
stays_held : (units others : List UnitRow)
    → ((name : Name) → is_some (unit_in units name) ≡ true → is_some (unit_in others name) ≡ true)
    → (online : Bool) (unit : Option Name) → IsHeld units online unit → IsHeld others online unit
stays_held units others stays online None held = tt
stays_held units others stays online (Some h) held = (held.0, stays h held.1)

pub new_unit_kept : (unit : UnitRow) (b : BoardRows) → is_some (unit_at b unit.name) ≡ false → IsBoard b
    → IsBoard (record b { units = put unit_before unit b.units })
new_unit_kept unit b absent invariants = record {
  units_rise = ascends_put unit_before (λ x y z. earlier_on x.name y.name z.name) unit b.units
      (all_weaker _ (λ u. unit_before unit u ≡ false → unit_before u unit ≡ true)
      (λ u differ later. earlier_or_later unit.name u.name (is_mirrored u.name unit.name differ) later) b.units
      (find_none (λ u. is u.name unit.name) b.units absent)) invariants.units_rise;
  devices_rise = invariants.devices_rise;
  consoles_rise = invariants.consoles_rise;
  replies_rise = invariants.replies_rise;
  held = all_weaker (IsHeldRightly b.units) _
      (λ d held. stays_held b.units (put unit_before unit b.units)
      (λ name there. find_put (λ u. is u.name name) unit_before unit b.units there) d.online d.unit held) b.devices
      invariants.held;
}

-- a unit changed under its name
pub at_unit_kept : (name : Name) (change : UnitRow → UnitRow) (b : BoardRows)
    → ((u : UnitRow) → (change u).name ≡ u.name) → IsBoard b → IsBoard (at_unit name change b)
at_unit_kept name change b same invariants = record {
  units_rise = ascends_changed unit_before _ change (λ x y here. ap (λ n. earlier n y.name) (same x))
      (λ x y here. ap (λ n. earlier x.name n) (same y)) b.units invariants.units_rise;
  devices_rise = invariants.devices_rise;
  consoles_rise = invariants.consoles_rise;
  replies_rise = invariants.replies_rise;
  held = all_weaker (IsHeldRightly b.units) _
      (λ d held. stays_held b.units (changed (λ u. is u.name name) change b.units)
      (λ n there. find_changed (λ u. is u.name n) (λ u. is u.name name) change (λ u here. ap (λ m. is m n) (same u))
      b.units ∙ there) d.online d.unit held) b.devices invariants.held;
}

-- devices

pub held_online : (units : List UnitRow) (was : Bool) (unit : Option Name) → IsHeld units was unit → IsHeld units true unit
held_online units was None held = tt
held_online units was (Some h) held = (refl, held.1)

pub held_by_none : (units : List UnitRow) (online : Bool) (unit : Option Name) → is_some unit ≡ false → IsHeld units online unit
held_by_none units online None free = tt
held_by_none units online (Some h) free = absurd (cc)

pub holder_moves : (units : List UnitRow) (was now : Bool) (unit : Option Name) → now ≡ true → IsHeld units was unit → IsHeld units now unit
holder_moves units was now None online held = tt
holder_moves units was now (Some h) online held = (online, held.1)

-- a device is held as all are
pub device_held : (b : BoardRows) (number : Name) (device : DeviceRow) → device_at b number ≡ Some device → IsBoard b → IsHeldRightly b.units device
device_held b number device at invariants = all_found (IsHeldRightly b.units) (λ d. is d.number number) device b.devices at invariants.held

-- a row in place of the one of its number
pub with_device_kept : (row : DeviceRow) (b : BoardRows) → IsHeldRightly b.units row → IsBoard b → IsBoard (with_device row b)
with_device_kept row b right invariants = record {
  units_rise = invariants.units_rise;
  devices_rise = ascends_changed device_before (λ d. is d.number row.number) (λ d. row)
      (λ x y here. ap (λ n. earlier n y.number) (sym (is_same_name x.number row.number here)))
      (λ x y here. ap (λ n. earlier x.number n) (sym (is_same_name y.number row.number here))) b.devices
      invariants.devices_rise;
  consoles_rise = invariants.consoles_rise;
  replies_rise = invariants.replies_rise;
  held = all_changed (IsHeldRightly b.units) (λ d. is d.number row.number) (λ d. row) (λ d here held. right) b.devices invariants.held;
}

pub new_device_kept : (row : DeviceRow) (b : BoardRows) → is_some (device_at b row.number) ≡ false
    → IsHeldRightly b.units row → IsBoard b → IsBoard (record b { devices = put device_before row b.devices })
new_device_kept row b absent right invariants = record {
  units_rise = invariants.units_rise;
  devices_rise = ascends_put device_before (λ x y z. earlier_on x.number y.number z.number) row b.devices
      (all_weaker _ (λ d. device_before row d ≡ false → device_before d row ≡ true)
      (λ d differ later. earlier_or_later row.number d.number (is_mirrored d.number row.number differ) later) b.devices
      (find_none (λ d. is d.number row.number) b.devices absent)) invariants.devices_rise;
  consoles_rise = invariants.consoles_rise;
  replies_rise = invariants.replies_rise;
  held = all_put (IsHeldRightly b.units) device_before row right b.devices invariants.held;
}

-- consoles

pub with_console_kept : (row : ConsoleRow) (b : BoardRows) → IsBoard b → IsBoard (with_console row b)
with_console_kept row b invariants = record {
  units_rise = invariants.units_rise;
  devices_rise = invariants.devices_rise;
  consoles_rise = ascends_changed console_before (λ c. is c.name row.name) (λ c. row)
      (λ x y here. ap (λ n. earlier n y.name) (sym (is_same_name x.name row.name here)))
      (λ x y here. ap (λ n. earlier x.name n) (sym (is_same_name y.name row.name here))) b.consoles
      invariants.consoles_rise;
  replies_rise = invariants.replies_rise;
  held = invariants.held;
}

-- a console changed under its name
pub at_console_kept : (name : Name) (change : ConsoleRow → ConsoleRow) (b : BoardRows)
    → ((c : ConsoleRow) → (change c).name ≡ c.name) → IsBoard b → IsBoard (at_console name change b)
at_console_kept name change b same invariants = record {
  units_rise = invariants.units_rise;
  devices_rise = invariants.devices_rise;
  consoles_rise = ascends_changed console_before _ change (λ x y here. ap (λ n. earlier n y.name) (same x))
      (λ x y here. ap (λ n. earlier x.name n) (same y)) b.consoles invariants.consoles_rise;
  replies_rise = invariants.replies_rise;
  held = invariants.held;
}

pub new_console_kept : (row : ConsoleRow) (b : BoardRows) → console_at b row.name ≡ None → IsBoard b
    → IsBoard (record b { consoles = put console_before row b.consoles })
new_console_kept row b absent invariants = record {
  units_rise = invariants.units_rise;
  devices_rise = invariants.devices_rise;
  consoles_rise = ascends_put console_before (λ x y z. earlier_on x.name y.name z.name) row b.consoles
      (all_weaker _ (λ c. console_before row c ≡ false → console_before c row ≡ true)
      (λ c differ later. earlier_or_later row.name c.name (is_mirrored c.name row.name differ) later) b.consoles
      (find_none (λ c. is c.name row.name) b.consoles (ap is_some absent))) invariants.consoles_rise;
  replies_rise = invariants.replies_rise;
  held = invariants.held;
}

-- of two consoles in order one at most has the name
pub apart_names : (x y name : Name) → is x name ≡ true → earlier x y ≡ true → is y name ≡ false
apart_names x y name here after =
    elim (is y name) as (λ t. is y name ≡ t → t ≡ false) [
      | true ↦ λ e.
          let same : y ≡ x = is_same_name y name e ∙ sym (is_same_name x name here) in
          let never : earlier x x ≡ true = subst (λ (n : Name). earlier x n ≡ true) same after in
          absurd (false≢true (sym (not_earlier x) ∙ never))
      | false ↦ λ e. refl
    ] refl

-- the masters that there are with a row in place of the one of its name
pub masters_with : (row : ConsoleRow) (b : BoardRows) → IsBoard b
    → has_master (replaced row b.consoles) ≡ list_any (λ c. is_master (cond (is c.name row.name) row c)) b.consoles
masters_with row b invariants =
    ap has_master (changed_is_map console_before (λ c. is c.name row.name) (λ c. row)
    (λ x y here after. apart_names x.name y.name row.name here after) b.consoles invariants.consoles_rise)
    ∙ any_of_map is_master (λ c. cond (is c.name row.name) row c) b.consoles

-- replies

pub fewer_replies_kept : (b : BoardRows) (p : ReplyRow → Bool) → IsBoard b → IsBoard (record b { replies = filter p b.replies })
fewer_replies_kept b p invariants = record {
  units_rise = invariants.units_rise;
  devices_rise = invariants.devices_rise;
  consoles_rise = invariants.consoles_rise;
  replies_rise = ascends_filter reply_before p b.replies invariants.replies_rise;
  held = invariants.held;
}

pub less_on : (x y z : ℕ) → is_lt (nat_cmp x y) ≡ true → is_lt (nat_cmp y z) ≡ true → is_lt (nat_cmp x z) ≡ true
less_on x y z e f = grind (arith, nat_tests, e, f)

pub less_or_more : (x y : ℕ) → (y == x) ≡ false → is_lt (nat_cmp x y) ≡ false → is_lt (nat_cmp y x) ≡ true
less_or_more x y e f = grind (arith, nat_tests, e, f)

pub new_reply_kept : (row : ReplyRow) (b : BoardRows) → is_some (reply_at b row.id) ≡ false → IsBoard b
    → IsBoard (record b { replies = put reply_before row b.replies })
new_reply_kept row b absent invariants = record {
  units_rise = invariants.units_rise;
  devices_rise = invariants.devices_rise;
  consoles_rise = invariants.consoles_rise;
  replies_rise = ascends_put reply_before (λ x y z. less_on x.id y.id z.id) row b.replies
      (all_weaker _ (λ r. reply_before row r ≡ false → reply_before r row ≡ true)
      (λ r differ later. less_or_more row.id r.id differ later) b.replies
      (find_none (λ r. r.id == row.id) b.replies absent)) invariants.replies_rise;
  held = invariants.held;
}
