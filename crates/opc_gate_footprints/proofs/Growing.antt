-- Parts of a state's board that grow.
use Rattle.std.proofs.Common.{
  ◌≡◌,
  ℕ,
  Bool,
  true,
  false,
  ◌||◌,
  ◌==◌,
  List,
  [],
  filter,
  take,
  Option,
  Some,
  Result,
  Ok,
  Err,
  OnOk,
  IsSome,
  refl,
  ap,
  sym,
  ◌∙◌,
  arith,
}
use Rattle.std.specs.List.{AllByRecursion, find, list_any}
use Rattle.std.specs.Option.{is_some}
use Rattle.std.specs.Ordering.{nat_cmp, is_lt}
use Rattle.std.proofs.lemmas.Bool.{false≢true}
use Rattle.std.proofs.lemmas.Bool.Decides.{nat_tests}
use Rattle.opc_rows.proofs.Filtered.{filter_keyed, found_each}
use Rattle.opc_rows.proofs.Orders.{all_weaker}
use Rattle.opc_board.specs.declared.board.BoardRows.{BoardRows}
use Rattle.opc_board.specs.declared.rows.ConsoleRow.{ConsoleRow}
use Rattle.opc_board.specs.declared.rows.DeviceRow.{DeviceRow}
use Rattle.opc_board.specs.declared.rows.ReplyRow.{ReplyRow}
use Rattle.opc_board.specs.declared.rows.UnitRow.{UnitRow}
use Rattle.opc_board.specs.Enough.{has, no_rows}
use Rattle.opc_board.specs.Invariants.{
  Name,
  console_at,
  console_before,
  device_at,
  device_before,
  earlier,
  is,
  is_master,
  reply_at,
  reply_before,
  unit_at,
  unit_before,
}
use Rattle.opc_board.specs.History.{without_history}
use Rattle.opc_board.specs.Footprint.{Footprint, HasLeaving, has_console_of, has_device_of, has_reply_of, has_unit_of}
use Rattle.opc_board.specs.Units.{is_holder}
use Rattle.opc_board.proofs.Kept.{apart_names}
use Rattle.opc_board.proofs.Names.{earlier_on, is_itself, is_mirrored, not_earlier}
use Rattle.opc_state.specs.Invariants.{IsKeyed}
use Rattle.opc_state.specs.Loads.{consoles_of, devices_of, masters}
use Rattle.opc_state.specs.State.{State}
use Rattle.opc_gate_footprints.specs.Joined.{joined}
use Rattle.opc_gate_footprints.specs.BoardKeys.{HasMasters, HasConsolesOf}
use Rattle.opc_gate_footprints.specs.Loading.{LoadsFirst, LoadsMore, IsPart, IsWithin}
use Rattle.opc_gate_footprints.proofs.Joining.{joins, there_joined}
use Rattle.opc_gate_footprints.proofs.Taken.{each_at, first_by_keys, nothing_seen}

-- what follows from a success
pub on_ok : {V E P Q : Type 0} (r : Result V E) → (P → Q) → OnOk r P → OnOk r Q
on_ok (Ok v) follows h = follows h
on_ok (Err e) follows h = tt

or_first : (a b : Bool) → a ≡ true → a || b ≡ true
or_first true b h = refl
or_first false b h = absurd (cc)

or_second : (a b : Bool) → b ≡ true → a || b ≡ true
or_second true b h = refl
or_second false b h = h

-- names and numbers in order

one_way : (a b : Name) → earlier a b ≡ true → earlier b a ≡ false
one_way a b after = go (earlier b a) refl
  where
    go : (back : Bool) → earlier b a ≡ back → back ≡ false
    go true e = absurd (false≢true (sym (not_earlier a) ∙ earlier_on a b a after e))
    go false e = refl

apart : (a b : Name) → earlier a b ≡ true → is b a ≡ false
apart a b after = apart_names a b a (is_itself a) after

number_apart : (m n id : ℕ) → (m == id) ≡ true → is_lt (nat_cmp m n) ≡ true → (n == id) ≡ false
number_apart m n id here after = grind (arith, nat_tests, here, after)

number_one_way : (m n : ℕ) → is_lt (nat_cmp m n) ≡ true → is_lt (nat_cmp n m) ≡ false
number_one_way m n after = grind (arith, nat_tests, after)

number_itself : (n : ℕ) → (n == n) ≡ true
number_itself n = grind (arith, nat_tests)

-- within

pub within_itself : (footprint : Footprint) → IsWithin footprint footprint
within_itself footprint = record { units = λ n h. h; devices = λ n h. h; consoles = λ n h. h; replies = λ n h. h }

within_on : (a b c : Footprint) → IsWithin a b → IsWithin b c → IsWithin a c
within_on a b c one other = record {
  units = λ n h. other.units n (one.units n h);
  devices = λ n h. other.devices n (one.devices n h);
  consoles = λ n h. other.consoles n (one.consoles n h);
  replies = λ n h. other.replies n (one.replies n h);
}

-- a board without rows is a part of any state's board
pub nothing_is : (s : State) (part : BoardRows) → part ≡ record {
  units = [];
  devices = [];
  consoles = [];
  replies = [];
  answered = [];
  log = [];
  messages = [];
  halted = s.board.halted;
} → IsPart s no_rows part
nothing_is s part is =
    is ∙ sym (rw (
      nothing_seen s.board.units,
      nothing_seen s.board.devices,
      nothing_seen s.board.consoles,
      nothing_seen s.board.replies,
    ) refl)

-- a console that is added is there
pub some_there : (console : ConsoleRow) (old new : List ConsoleRow)
    → new ≡ joined console_before (λ c. is c.name console.name) (Some console) old
    → IsSome (find (λ (c : ConsoleRow). is c.name console.name) new)
some_there console old new makes = ap (λ cs. is_some (find (λ (c : ConsoleRow). is c.name console.name) cs)) makes
    ∙ there_joined console_before (λ c. is c.name console.name) (λ c. true) console old (is_itself console.name)

module _ (s : State) where
  live : BoardRows
  live = without_history s.board

  -- one load after another
  pub then_grows : (a b c : BoardRows) (P Q R : Footprint → Type 0)
      → ((x y : Footprint) → IsWithin x y → P x → Q y → R y) → LoadsMore s a b P → LoadsMore s b c Q → LoadsMore s a c R
  then_grows a b c P Q R both first second keyed footprint part =
      let one = first keyed footprint part in
      let two = second keyed one.more one.is in
      record {
        more = two.more;
        within = within_on footprint one.more two.more one.within two.within;
        is = two.is;
        sees = both one.more two.more two.within one.sees two.sees;
      }

  pub then_begins : (a b c : BoardRows) (P Q R : Footprint → Type 0)
      → ((x y : Footprint) → IsWithin x y → P x → Q y → R y) → LoadsFirst s a b P → LoadsMore s b c Q
      → LoadsFirst s a c R
  then_begins a b c P Q R both first second keyed part =
      let one = first keyed part in
      let two = second keyed one.more one.is in
      record {
        more = two.more;
        within = within_on no_rows one.more two.more one.within two.within;
        is = two.is;
        sees = both one.more two.more two.within one.sees two.sees;
      }

  -- nothing more
  pub stays : (part : BoardRows) (what : Footprint → Type 0) → ((footprint : Footprint) → what footprint) → LoadsMore s part part what
  stays part what sees keyed footprint is = record { more = footprint; within = within_itself footprint; is = is; sees = sees footprint }

  -- a row more

  pub with_unit : (old : BoardRows) (name : Name) (unit : Option UnitRow) (rows : List UnitRow)
      → unit ≡ unit_at s.board name → rows ≡ joined unit_before (λ u. is u.name name) unit old.units
      → LoadsMore s old (record old { units = rows }) (λ footprint. footprint.units name ≡ true)
  with_unit old name unit rows at makes keyed footprint part = record {
    more = record footprint { units = λ n. footprint.units n || is n name };
    within = record { units = λ n h. or_first (footprint.units n) (is n name) h; devices = λ n h. h; consoles = λ n h. h; replies = λ n h. h };
    is =
        ap (λ us. record old { units = us }) (makes ∙ ap (λ (o : BoardRows). joined unit_before (λ u. is u.name name) unit o.units) part
        ∙ joins unit_before (λ u. is u.name name) (has_unit_of footprint)
        (λ x y here after. apart_names x.name y.name name here after) (λ x y after. one_way x.name y.name after)
        unit s.board.units keyed.board.units at)
        ∙ ap (λ (o : BoardRows). record o { units = filter (λ u. has_unit_of footprint u || is u.name name) s.board.units }) part;
    sees = or_second (footprint.units name) (is name name) (is_itself name);
  }

  pub with_device : (old : BoardRows) (number : Name) (device : Option DeviceRow) (rows : List DeviceRow)
      → device ≡ device_at s.board number → rows ≡ joined device_before (λ d. is d.number number) device old.devices
      → LoadsMore s old (record old { devices = rows }) (λ footprint. footprint.devices number ≡ true)
  with_device old number device rows at makes keyed footprint part = record {
    more = record footprint { devices = λ n. footprint.devices n || is n number };
    within = record { units = λ n h. h; devices = λ n h. or_first (footprint.devices n) (is n number) h; consoles = λ n h. h; replies = λ n h. h };
    is =
        ap (λ ds. record old { devices = ds }) (makes ∙ ap (λ (o : BoardRows). joined device_before (λ d. is d.number number) device o.devices) part
        ∙ joins device_before (λ d. is d.number number) (has_device_of footprint)
        (λ x y here after. apart_names x.number y.number number here after)
        (λ x y after. one_way x.number y.number after) device s.board.devices keyed.board.devices at)
        ∙ ap (λ (o : BoardRows). record o { devices = filter (λ d. has_device_of footprint d || is d.number number) s.board.devices }) part;
    sees = or_second (footprint.devices number) (is number number) (is_itself number);
  }

  pub with_console : (old : BoardRows) (name : Name) (console : Option ConsoleRow) (rows : List ConsoleRow)
      → console ≡ console_at s.board name → rows ≡ joined console_before (λ c. is c.name name) console old.consoles
      → LoadsMore s old (record old { consoles = rows }) (λ footprint. footprint.consoles name ≡ true)
  with_console old name console rows at makes keyed footprint part = record {
    more = record footprint { consoles = λ n. footprint.consoles n || is n name };
    within = record { units = λ n h. h; devices = λ n h. h; consoles = λ n h. or_first (footprint.consoles n) (is n name) h; replies = λ n h. h };
    is =
        ap (λ cs. record old { consoles = cs }) (makes ∙ ap (λ (o : BoardRows). joined console_before (λ c. is c.name name) console o.consoles) part
        ∙ joins console_before (λ c. is c.name name) (has_console_of footprint)
        (λ x y here after. apart_names x.name y.name name here after) (λ x y after. one_way x.name y.name after)
        console s.board.consoles keyed.board.consoles at)
        ∙ ap (λ (o : BoardRows). record o { consoles = filter (λ c. has_console_of footprint c || is c.name name) s.board.consoles }) part;
    sees = or_second (footprint.consoles name) (is name name) (is_itself name);
  }

  pub with_reply : (old : BoardRows) (id : ℕ) (reply : Option ReplyRow) (rows : List ReplyRow)
      → reply ≡ reply_at s.board id → rows ≡ joined reply_before (λ r. r.id == id) reply old.replies
      → LoadsMore s old (record old { replies = rows }) (λ footprint. footprint.replies id ≡ true)
  with_reply old id reply rows at makes keyed footprint part = record {
    more = record footprint { replies = λ n. footprint.replies n || (n == id) };
    within = record { units = λ n h. h; devices = λ n h. h; consoles = λ n h. h; replies = λ n h. or_first (footprint.replies n) (n == id) h };
    is =
        ap (λ rs. record old { replies = rs }) (makes ∙ ap (λ (o : BoardRows). joined reply_before (λ r. r.id == id) reply o.replies) part
        ∙ joins reply_before (λ r. r.id == id) (has_reply_of footprint)
        (λ x y here after. number_apart x.id y.id id here after) (λ x y after. number_one_way x.id y.id after) reply
        s.board.replies keyed.board.replies at)
        ∙ ap (λ (o : BoardRows). record o { replies = filter (λ r. has_reply_of footprint r || (r.id == id)) s.board.replies }) part;
    sees = or_second (footprint.replies id) (id == id) (number_itself id);
  }

  -- the devices of a unit, the consoles of a user, and the masters, by their keys

  never : {P : Type 0} → false ≡ true → P
  never h = absurd (false≢true h)

  begin_devices : (old : BoardRows) (rows : List DeviceRow) (choice : Name → Bool) (what : Footprint → Type 0)
      → rows ≡ filter (λ d. choice d.number) s.board.devices → what (record no_rows { devices = choice })
      → LoadsFirst s old (record old { devices = rows }) what
  begin_devices old rows choice what are sees keyed part = record {
    more = record no_rows { devices = choice };
    within = record { units = λ n h. h; devices = λ n h. never h; consoles = λ n h. h; replies = λ n h. h };
    is = ap (λ ds. record old { devices = ds }) are ∙ ap (λ (o : BoardRows). record o { devices = filter (λ d. choice d.number) s.board.devices }) part;
    sees = sees;
  }

  begin_consoles : (old : BoardRows) (rows : List ConsoleRow) (choice : Name → Bool) (what : Footprint → Type 0)
      → rows ≡ filter (λ c. choice c.name) s.board.consoles → what (record no_rows { consoles = choice })
      → LoadsFirst s old (record old { consoles = rows }) what
  begin_consoles old rows choice what are sees keyed part = record {
    more = record no_rows { consoles = choice };
    within = record { units = λ n h. h; devices = λ n h. h; consoles = λ n h. never h; replies = λ n h. h };
    is = ap (λ cs. record old { consoles = cs }) are ∙ ap (λ (o : BoardRows). record o { consoles = filter (λ c. choice c.name) s.board.consoles }) part;
    sees = sees;
  }

  devices_found : IsKeyed s → AllByRecursion (λ d. device_at s.board d.number ≡ Some d) s.board.devices
  devices_found keyed = found_each (λ (x y : DeviceRow). is x.number y.number) device_before (λ d. is_itself d.number)
      (λ x y after. is_mirrored y.number x.number (apart x.number y.number after)) s.board.devices keyed.board.devices

  consoles_found : IsKeyed s → AllByRecursion (λ c. console_at s.board c.name ≡ Some c) s.board.consoles
  consoles_found keyed = found_each (λ (x y : ConsoleRow). is x.name y.name) console_before (λ c. is_itself c.name)
      (λ x y after. is_mirrored y.name x.name (apart x.name y.name after)) s.board.consoles keyed.board.consoles

  pub devices_of_unit : (old : BoardRows) (unit : Name) (rows : List DeviceRow) → rows ≡ devices_of s.board unit
      → LoadsFirst s old (record old { devices = rows })
      (λ footprint. AllByRecursion (λ d. is_holder unit d.unit ≡ true → has_device_of footprint d ≡ true)
      s.board.devices)
  devices_of_unit old unit rows are keyed part =
      begin_devices old rows (λ n. has (λ (d : DeviceRow). is_holder unit d.unit) (device_at s.board n))
      (λ footprint. AllByRecursion (λ d. is_holder unit d.unit ≡ true → has_device_of footprint d ≡ true)
      s.board.devices)
      (are ∙ sym (filter_keyed (λ (d : DeviceRow). is_holder unit d.unit) (λ (x y : DeviceRow). is x.number y.number)
      s.board.devices s.board.devices (devices_found keyed)))
      (all_weaker (λ d. device_at s.board d.number ≡ Some d)
      (λ d. is_holder unit d.unit ≡ true
      → has (λ (e : DeviceRow). is_holder unit e.unit) (device_at s.board d.number) ≡ true)
      (λ d found held. ap (has (λ (e : DeviceRow). is_holder unit e.unit)) found ∙ held) s.board.devices
      (devices_found keyed))
      keyed part

  pub consoles_of_user : (old : BoardRows) (user : Name) (rows : List ConsoleRow) → rows ≡ consoles_of s.board user
      → LoadsFirst s old (record old { consoles = rows })
      (λ footprint. HasConsolesOf footprint (without_history s.board) user)
  consoles_of_user old user rows are keyed part =
      begin_consoles old rows (λ n. has (λ (c : ConsoleRow). is_holder user c.user) (console_at s.board n))
      (λ footprint. HasConsolesOf footprint (without_history s.board) user)
      (are ∙ sym (filter_keyed (λ (c : ConsoleRow). is_holder user c.user) (λ (x y : ConsoleRow). is x.name y.name)
      s.board.consoles s.board.consoles (consoles_found keyed)))
      (all_weaker (λ c. console_at s.board c.name ≡ Some c)
      (λ c. is_holder user c.user ≡ true
      → has (λ (e : ConsoleRow). is_holder user e.user) (console_at s.board c.name) ≡ true)
      (λ c found on. ap (has (λ (e : ConsoleRow). is_holder user e.user)) found ∙ on) s.board.consoles
      (consoles_found keyed))
      keyed part

  pub two_masters : (old : BoardRows) (rows : List ConsoleRow) → rows ≡ take 2 (masters s.board)
      → LoadsFirst s old (record old { consoles = rows }) (λ footprint. HasMasters footprint (without_history s.board))
  two_masters old rows are keyed part =
      begin_consoles old rows (λ n. list_any (λ (m : ConsoleRow). is m.name n) (take 2 (masters s.board)))
      (λ footprint. HasMasters footprint (without_history s.board))
      (are ∙ first_by_keys (λ (x y : ConsoleRow). is x.name y.name) console_before (λ c. is_itself c.name)
      (λ x y after. is_mirrored y.name x.name (apart x.name y.name after)) (λ x y after. apart x.name y.name after)
      is_master 2 s.board.consoles keyed.board.consoles)
      (each_at (λ (x y : ConsoleRow). is x.name y.name) (λ c. is_itself c.name) (take 2 (masters s.board)))
      keyed part

  -- a unit with its devices, a console with two masters, a session with the user's consoles

  pub leaves : (old new : BoardRows) (unit : Name) (rows : List DeviceRow) → rows ≡ devices_of s.board unit
      → LoadsMore s (record old { devices = rows }) new (λ footprint. footprint.units unit ≡ true)
      → LoadsFirst s old new (λ footprint. HasLeaving footprint (without_history s.board) unit)
  leaves old new unit rows are grows =
      then_begins old (record old { devices = rows }) new
      (λ footprint. AllByRecursion (λ d. is_holder unit d.unit ≡ true → has_device_of footprint d ≡ true)
      s.board.devices) (λ footprint. footprint.units unit ≡ true)
      (λ footprint. HasLeaving footprint (without_history s.board) unit)
      (λ x y within held there. (
        there,
        all_weaker (λ d. is_holder unit d.unit ≡ true → has_device_of x d ≡ true)
            (λ d. is_holder unit d.unit ≡ true → has_device_of y d ≡ true) (λ d h has. within.devices d.number (h has))
            s.board.devices held,
      ))
      (devices_of_unit old unit rows are) grows

  pub varies : (old new : BoardRows) (name : Name) (rows : List ConsoleRow) → rows ≡ take 2 (masters s.board)
      → LoadsMore s (record old { consoles = rows }) new (λ footprint. footprint.consoles name ≡ true)
      → LoadsFirst s old new (λ footprint. (footprint.consoles name ≡ true) × HasMasters footprint (without_history s.board))
  varies old new name rows are grows =
      then_begins old (record old { consoles = rows }) new (λ footprint. HasMasters footprint (without_history s.board))
      (λ footprint. footprint.consoles name ≡ true)
      (λ footprint. (footprint.consoles name ≡ true) × HasMasters footprint (without_history s.board))
      (λ x y within two there. (
        there,
        all_weaker (λ c. has_console_of x c ≡ true) (λ c. has_console_of y c ≡ true)
            (λ c h. within.consoles c.name h) (take 2 (masters s.board)) two,
      ))
      (two_masters old rows are) grows

  pub addresses : (old new : BoardRows) (user : Name) (rows : List ConsoleRow) → rows ≡ consoles_of s.board user
      → LoadsMore s (record old { consoles = rows }) new (λ footprint. footprint.units user ≡ true)
      → LoadsFirst s old new (λ footprint. (footprint.units user ≡ true) × HasConsolesOf footprint (without_history s.board) user)
  addresses old new user rows are grows =
      then_begins old (record old { consoles = rows }) new
      (λ footprint. HasConsolesOf footprint (without_history s.board) user)
      (λ footprint. footprint.units user ≡ true)
      (λ footprint. (footprint.units user ≡ true) × HasConsolesOf footprint (without_history s.board) user)
      (λ x y within on there. (
        there,
        all_weaker (λ c. is_holder user c.user ≡ true → has_console_of x c ≡ true)
            (λ c. is_holder user c.user ≡ true → has_console_of y c ≡ true) (λ c h has. within.consoles c.name (h has))
            s.board.consoles on,
      ))
      (consoles_of_user old user rows are) grows

  -- a device and, before it, the unit that has it
  pub held_device : (old mid : BoardRows) (number : Name) (device : Option DeviceRow) (rows : List DeviceRow)
      → LoadsMore s old mid (λ footprint. Unit {0}) → device ≡ device_at s.board number
      → rows ≡ joined device_before (λ d. is d.number number) device mid.devices
      → LoadsMore s old (record mid { devices = rows }) (λ footprint. footprint.devices number ≡ true)
  held_device old mid number device rows first at makes =
      then_grows old mid (record mid { devices = rows }) (λ footprint. Unit {0})
      (λ footprint. footprint.devices number ≡ true) (λ footprint. footprint.devices number ≡ true)
      (λ x y within one there. there) first (with_device mid number device rows at makes)

  pub two_devices : (old mid new : BoardRows) (from to : Name)
      → LoadsMore s old mid (λ footprint. footprint.devices from ≡ true)
      → LoadsMore s mid new (λ footprint. footprint.devices to ≡ true)
      → LoadsMore s old new (λ footprint. (footprint.devices from ≡ true) × (footprint.devices to ≡ true))
  two_devices old mid new from to first second =
      then_grows old mid new (λ footprint. footprint.devices from ≡ true) (λ footprint. footprint.devices to ≡ true)
      (λ footprint. (footprint.devices from ≡ true) × (footprint.devices to ≡ true))
      (λ x y within one there. (within.devices from one, there)) first second

  pub device_and_unit : (old mid new : BoardRows) (number name : Name)
      → LoadsMore s old mid (λ footprint. footprint.devices number ≡ true)
      → LoadsMore s mid new (λ footprint. footprint.units name ≡ true)
      → LoadsMore s old new (λ footprint. (footprint.devices number ≡ true) × (footprint.units name ≡ true))
  device_and_unit old mid new number name first second =
      then_grows old mid new (λ footprint. footprint.devices number ≡ true) (λ footprint. footprint.units name ≡ true)
      (λ footprint. (footprint.devices number ≡ true) × (footprint.units name ≡ true))
      (λ x y within one there. (within.devices number one, there)) first second
