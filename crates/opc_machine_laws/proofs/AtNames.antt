-- What commands and events make of the board.
use Rattle.std.proofs.Common.{◌≡◌, ◌≢◌, ℕ, Bool, true, false, not, ◌==◌, if◌then◌else◌, List, Option, Some, None, refl, sym, ap, subst, ◌∙◌, arith, rules}
use Rattle.std.specs.List.{filter, find}
use Rattle.std.specs.Option.{is_none, is_some, option_map}
use Rattle.std.proofs.lemmas.Bool.Decides.{nat_tests}
use Rattle.opc_rows.specs.Ordered.{changed, put}
use Rattle.opc_rows.proofs.Filtered.{find_seen}
use Rattle.opc_board.specs.declared.board.BoardRows.{BoardRows}
use Rattle.opc_board.specs.declared.rows.ConsoleRow.{ConsoleRow}
use Rattle.opc_board.specs.declared.rows.DeviceRow.{DeviceRow}
use Rattle.opc_board.specs.declared.rows.UnitKind.{UnitKind}
use Rattle.opc_board.specs.declared.rows.UnitKind.TheVariants.{Job, Stc, Tsu}
use Rattle.opc_board.specs.declared.rows.UnitRow.{UnitRow}
use Rattle.opc_board.specs.Consoles.{at_console, put_offline, with_console}
use Rattle.opc_board.specs.Devices.{emptied, loaded, with_device}
use Rattle.opc_board.specs.Invariants.{Name, console_at, device_at, is, unit_at, unit_before}
use Rattle.opc_board.specs.Units.{at_unit, freed, is_holder, is_tsu, without_unit}
use Rattle.opc_board.proofs.Agreeing.{found_named}
use Rattle.opc_board.proofs.Names.{is_itself, is_same_name}
use Rattle.opc_machine_laws.specs.EffectLaws.{
  AreGivenBack,
  Becomes,
  Comes,
  ConsoleBecomes,
  DeviceBecomes,
  DevicesSwap,
  GoesOffline,
  Leaves,
  UnitBecomes,
  UnitComes,
  UnitLeaves,
}
use Rattle.opc_machine_laws.proofs.Finding.{find_each, find_here, find_left_out, find_others, find_put, find_put_others}

-- names that differ

pub apart_names : (a b : Name) → a ≢ b → is a b ≡ false
apart_names a b apart = go (is a b) refl
  where
    go : (t : Bool) → is a b ≡ t → t ≡ false
    go true same = absurd (apart (is_same_name a b same))
    go false differ = refl

pub apart_numbers : (m n : ℕ) → m ≢ n → (m == n) ≡ false
apart_numbers m n apart = go (m == n) refl
  where
    go : (t : Bool) → (m == n) ≡ t → t ≡ false
    go true same = let e : m ≡ n = grind (arith, nat_tests, same) in absurd (apart e)
    go false differ = refl

pub number_itself : (m : ℕ) → (m == m) ≡ true
number_itself m = grind (arith, nat_tests)

pub none_is : {A : Type 0} (o : Option A) → is_some o ≡ false → o ≡ None
none_is None h = refl
none_is (Some x) h = absurd (cc)

pub no_more : {A : Type 0} (o : Option A) → is_none o ≡ false → is_some o ≡ true
no_more None h = absurd (cc)
no_more (Some x) h = refl

-- rows that are kept at names

module _ {R : Type 0} (key : R → Name) where
  abbrev pub at : List R → Name → Option R
  at rows name = find (λ r. is (key r) name) rows

  pub named : (rows : List R) (name : Name) (row : R) → at rows name ≡ Some row → key row ≡ name
  named rows name row there = is_same_name (key row) name (found_named key name row rows there)

  becomes : (rows : List R) (name : Name) (row : R) (f : R → R) (change : R → R → Type 0) → at rows name ≡ Some row
      → key (f row) ≡ key row → change row (f row)
      → Becomes (at rows) (at (changed (λ r. is (key r) name) f rows)) name change
  becomes rows name row f change there same so =
      let before : key row ≡ name = named rows name row there in
      let after : key (f row) ≡ name = same ∙ before in
      record {
        was = row;
        now = f row;
        there = there;
        here = find_here (λ r. is (key r) name) f row (ap (λ n. is n name) after ∙ is_itself name) rows there;
        changed = so;
        others = λ other apart. find_others (λ r. is (key r) name) (λ r. is (key r) other) f row
            (apart_names (key row) other (λ e. apart (sym e ∙ before))) (apart_names (key (f row)) other (λ e. apart (sym e ∙ after))) rows there;
      }

  -- the same of a row that is put in the place of the one of its name
  replaced_becomes : (rows : List R) (name : Name) (row new : R) (change : R → R → Type 0) → at rows name ≡ Some row
      → key new ≡ key row → change row new
      → Becomes (at rows) (at (changed (λ r. is (key r) (key new)) (λ r. new) rows)) name change
  replaced_becomes rows name row new change there same so =
      let after : key new ≡ name = same ∙ named rows name row there in
      subst (λ n. Becomes (at rows) (at (changed (λ r. is (key r) n) (λ r. new) rows)) name change) (sym after)
      (becomes rows name row (λ r. new) change there same so)

  pub comes : (before : R → R → Bool) (rows : List R) (new : R) → is_some (at rows (key new)) ≡ false → Comes (at rows) (at (put before new rows)) (key new) new
  comes before rows new free =
      let none : at rows (key new) ≡ None = none_is (at rows (key new)) free in
      record {
        free = none;
        here = find_put before new (λ r. is (key r) (key new)) (is_itself (key new)) rows none;
        others = λ other apart. find_put_others before new (λ r. is (key r) other) (apart_names (key new) other (λ e. apart (sym e))) rows;
      }

  leaves : (rows : List R) (name : Name) (row : R) (kind : R → Type 0) → at rows name ≡ Some row → kind row
      → Leaves (at rows) (at (filter (λ r. not (is (key r) name)) rows)) name kind
  leaves rows name row kind there so = record {
    was = row;
    there = there;
    of_kind = so;
    gone = find_left_out (λ r. is (key r) name) rows;
    others = λ other apart. find_seen (λ r. is (key r) other) (λ r. not (is (key r) name))
        (λ r same. ap not (apart_names (key r) name (λ e. apart (sym (is_same_name (key r) other same) ∙ e)))) rows;
  }

-- units

pub not_tsu : (kind : UnitKind) → is_tsu kind ≡ false → kind ≢ Tsu
not_tsu kind other is_one = let one : is_tsu kind ≡ true = ap is_tsu is_one in absurd (cc)

pub tsu_is : (kind : UnitKind) → is_tsu kind ≡ true → kind ≡ Tsu
tsu_is Job h = absurd (cc)
tsu_is (Stc member) h = absurd (cc)
tsu_is Tsu h = refl

module _ (unit : Name) where
  holds : (o : Option Name) → o ≡ Some unit → is_holder unit o ≡ true
  holds o same = ap (is_holder unit) same ∙ is_itself unit

  holds_not : (o : Option Name) → o ≢ Some unit → is_holder unit o ≡ false
  holds_not None other = refl
  holds_not (Some holder) other = apart_names holder unit (λ e. other (ap Some e))

  freed_own : (d : DeviceRow) → d.unit ≡ Some unit → freed unit d ≡ record d { unit = None }
  freed_own d own = ap (λ b. if b then record d { unit = None } else d) (holds d.unit own)

  freed_other : (d : DeviceRow) → d.unit ≢ Some unit → freed unit d ≡ d
  freed_other d other = ap (λ b. if b then record d { unit = None } else d) (holds_not d.unit other)

  freed_number : (d : DeviceRow) → (freed unit d).number ≡ d.number
  freed_number d = go (is_holder unit d.unit)
    where
      go : (b : Bool) → (if b then record d { unit = None } else d).number ≡ d.number
      go true = refl
      go false = refl

  given_back : (b : BoardRows) → AreGivenBack unit b (without_unit unit b)
  given_back b = record {
    own = λ number d there own. each number ∙ ap (option_map (freed unit)) there ∙ ap Some (freed_own d own);
    others = λ number d there other. each number ∙ ap (option_map (freed unit)) there ∙ ap Some (freed_other d other);
    none = λ number none. each number ∙ ap (option_map (freed unit)) none;
  }
    where
      each : (number : Name) → device_at (without_unit unit b) number ≡ option_map (freed unit) (device_at b number)
      each number = find_each (λ d. is d.number number) (freed unit) (λ d. ap (λ n. is n number) (freed_number d)) b.devices

pub unit_leaves : (name : Name) (kind : UnitRow → Type 0) (b : BoardRows) (u : UnitRow) → unit_at b name ≡ Some u
    → kind u → UnitLeaves name kind b (without_unit name b)
unit_leaves name kind b u there so = (leaves (λ (v : UnitRow). v.name) b.units name u kind there so, given_back name b, refl)

pub unit_becomes : (name : Name) (f : UnitRow → UnitRow) (change : UnitRow → UnitRow → Type 0) (b : BoardRows)
    (u : UnitRow) → unit_at b name ≡ Some u → (f u).name ≡ u.name → change u (f u)
    → UnitBecomes name change b (at_unit name f b)
unit_becomes name f change b u there same so = (becomes (λ (v : UnitRow). v.name) b.units name u f change there same so, refl)

pub unit_comes : (unit : UnitRow) (b : BoardRows) → b.halted ≡ false → is_some (unit_at b unit.name) ≡ false
    → UnitComes unit b (record b { units = put unit_before unit b.units })
unit_comes unit b day free = (day, comes (λ (v : UnitRow). v.name) unit_before b.units unit free, refl)

-- devices and consoles

pub device_becomes : (number : Name) (new : DeviceRow) (change : DeviceRow → DeviceRow → Type 0) (b : BoardRows)
    (d : DeviceRow) → device_at b number ≡ Some d → new.number ≡ d.number → change d new
    → DeviceBecomes number change b (with_device new b)
device_becomes number new change b d there same so = (replaced_becomes (λ (e : DeviceRow). e.number) b.devices number d new change there same so, refl)

pub console_becomes : (name : Name) (new : ConsoleRow) (change : ConsoleRow → ConsoleRow → Type 0) (b : BoardRows)
    (c : ConsoleRow) → console_at b name ≡ Some c → new.name ≡ c.name → change c new
    → ConsoleBecomes name change b (with_console new b)
console_becomes name new change b c there same so = (replaced_becomes (λ (d : ConsoleRow). d.name) b.consoles name c new change there same so, refl)

pub at_becomes : (name : Name) (f : ConsoleRow → ConsoleRow) (change : ConsoleRow → ConsoleRow → Type 0) (b : BoardRows)
    (c : ConsoleRow) → console_at b name ≡ Some c → (f c).name ≡ c.name → change c (f c)
    → ConsoleBecomes name change b (at_console name f b)
at_becomes name f change b c there same so = (becomes (λ (d : ConsoleRow). d.name) b.consoles name c f change there same so, refl)

pub offline_name : (c : ConsoleRow) → (put_offline c).name ≡ c.name
offline_name c = go c.online
  where
    go : (b : Bool) → (if b then record c { online = false; user = None } else c).name ≡ c.name
    go true = refl
    go false = refl

pub goes_offline : (c : ConsoleRow) → GoesOffline c (put_offline c)
goes_offline c = (
  λ on. ap (λ b. if b then record c {
    online = false;
    user = None;
  } else c) on,
  λ off. ap (λ b. if b then record c { online = false; user = None } else c) off,
)

-- a swap

pub swapped : (from to : Name) (b : BoardRows) (source target : DeviceRow) → device_at b from ≡ Some source
    → device_at b to ≡ Some target → source.online ≡ true → target.online ≡ true → is_some source.volume ≡ true
    → target.volume ≡ None → target.unit ≡ None
    → DevicesSwap from to b (with_device (loaded source target) (with_device (emptied source) b))
swapped from to b source target at_from at_to on_from on_to full no_volume no_unit = record {
  source = source;
  target = target;
  there = (at_from, at_to);
  online = (on_from, on_to);
  full = full;
  empty = (no_volume, no_unit);
  emptied = second.0.others from apart ∙ first.0.here ∙ ap Some first.0.changed;
  loaded = second.0.here ∙ ap Some second.0.changed;
  others = λ other not_from not_to. second.0.others other not_to ∙ first.0.others other not_from;
  rest = refl;
}
  where
    middle : BoardRows
    middle = with_device (emptied source) b

    apart : from ≢ to
    apart same =
        let one : ◌≡◌ {A = Option DeviceRow} (Some source) (Some target) = sym at_from ∙ ap (device_at b) same ∙ at_to in
        let rows : source ≡ target = search (rules, one) in
        let none : is_some source.volume ≡ false = ap (λ (d : DeviceRow). is_some d.volume) rows ∙ ap is_some no_volume in
        absurd (cc)

    first : DeviceBecomes from (λ was now. now ≡ emptied source) b middle
    first = device_becomes from (emptied source) (λ was now. now ≡ emptied source) b source at_from refl refl

    still : device_at middle to ≡ Some target
    still = first.0.others to (λ e. apart (sym e)) ∙ at_to

    second : DeviceBecomes to (λ was now. now ≡ loaded source target) middle (with_device (loaded source target) middle)
    second = device_becomes to (loaded source target) (λ was now. now ≡ loaded source target) middle target still refl refl
