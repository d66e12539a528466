-- What displays list.
use Rattle.std.proofs.Common.{◌≡◌, ℕ, zero, suc, arith, true, List, Option, Some, None, filter, map, refl, rules, sym, ap, subst, ◌∙◌, codes}
use Rattle.std.specs.List.{Contains}
use Rattle.opc_names.specs.declared.group.Group.TheVariants.{Info}
use Rattle.opc_names.specs.declared.level.Level.TheVariants.{Read}
use Rattle.opc_terms.specs.declared.need.Need.{Need}
use Rattle.opc_terms.specs.declared.rule.Rule.{Rule}
use Rattle.opc_policy.specs.declared.ruling.Ruling.{Ruling}
use Rattle.opc_policy.specs.declared.ruling.Ruling.TheVariants.{Allowed, Denied}
use Rattle.opc_reader_commands.specs.declared.command.Command.TheVariants as command
use Rattle.opc_table.specs.Table.{qualified}
use Rattle.opc_board.specs.declared.line.Item.{Item}
use Rattle.opc_board.specs.declared.line.Item.TheVariants as item
use Rattle.opc_board.specs.declared.line.Line.{Line}
use Rattle.opc_board.specs.declared.rows.ConsoleRow.{ConsoleRow}
use Rattle.opc_board.specs.declared.rows.UnitRow.{UnitRow}
use Rattle.opc_board.specs.Invariants.{unit_at}
use Rattle.opc_board.specs.Texts.{console_line, lines_of, unit_line}
use Rattle.opc_state.specs.State.{State}
use Rattle.opc_machine.specs.Rulings.{is_allowed, need_to_show, passes, ruling, shown}
use Rattle.opc_machine_laws.specs.DisplayLaws.{
  LinesAreAboutWhatTheyList,
  ListsEachConsoleOnce,
  ListsEachUnitOnce,
  ListsEveryConsole,
  ListsEveryUnit,
  ListsTheUnit,
  ListsTheUnitOnce,
  MayBeShown,
}
use Rattle.opc_machine_laws.proofs.Acting.{lists_exactly}
use Rattle.opc_machine_laws.proofs.Changing.{made_of, makes}

is_by : (r : Ruling) → is_allowed r ≡ true → (why : Rule) × (r ≡ Allowed why)
is_by (Allowed why) h = (why, refl)
is_by (Denied why) h = absurd (search (rules, h))

module _ (s : State) (c : ConsoleRow) (words name : List ℕ) where
  abbrev to_read : Need
  to_read = record { resource = qualified words name; level = Read; group = Info }

  may_be : passes s c (Some to_read) ≡ true → MayBeShown s c words name
  may_be h = is_by (ruling s c to_read) h

  is_shown : MayBeShown s c words name → passes s c (Some to_read) ≡ true
  is_shown may = ap is_allowed may.1

-- a line is shown if what it is about is
about : (s : State) (c : ConsoleRow) (line : Line) (i : Item) → line.item ≡ i → shown s c line ≡ passes s c (need_to_show i)
about s c line i is = ap (λ x. passes s c (need_to_show x)) is

pub are_about : LinesAreAboutWhatTheyList
are_about s c = record {
  units = λ unit. refl;
  consoles = λ row. refl;
  devices = λ device. refl;
  replies = λ id text. refl;
  of_unit = λ line name is. (
    λ h. may_be s c (codes "MVS.DISPLAY.JOB") name (sym (about s c line (item.Unit name) is) ∙ h),
    λ may. about s c line (item.Unit name) is ∙ is_shown s c (codes "MVS.DISPLAY.JOB") name may,
  );
  of_console = λ line name is. (
    λ h. may_be s c (codes "MVS.DISPLAY.CN") name (sym (about s c line (item.Console name) is) ∙ h),
    λ may. about s c line (item.Console name) is ∙ is_shown s c (codes "MVS.DISPLAY.CN") name may,
  );
  plain = λ line is. about s c line item.Plain is;
}

pub every_unit : ListsEveryUnit
every_unit s c why lines rule new acts line =
    let made : acts.act.lines ≡ map unit_line s.board.units = search (rules, acts.makes) in
    let exactly = lists_exactly s c command.DisplayUnits why lines rule new acts line in (
      λ h.
          let listed = exactly.0 h in
          let of = made_of unit_line s.board.units line (subst (λ l. Contains l line) made listed.0) in
          (of.0, of.1, of.2, may_be s c (codes "MVS.DISPLAY.JOB") of.0.name (ap (shown s c) (sym of.1) ∙ listed.1)),
      λ h.
          exactly.1 (
            subst (λ l. Contains l line) (sym made) (subst (Contains (map unit_line s.board.units)) (sym h.1) (makes unit_line s.board.units h.0 h.2)),
            ap (shown s c) h.1 ∙ is_shown s c (codes "MVS.DISPLAY.JOB") h.0.name h.3,
          ),
    )

pub every_console : ListsEveryConsole
every_console s c why lines rule new acts line =
    let made : acts.act.lines ≡ map console_line s.board.consoles = search (rules, acts.makes) in
    let exactly = lists_exactly s c command.DisplayConsoles why lines rule new acts line in (
      λ h.
          let listed = exactly.0 h in
          let of = made_of console_line s.board.consoles line (subst (λ l. Contains l line) made listed.0) in
          (of.0, of.1, of.2, may_be s c (codes "MVS.DISPLAY.CN") of.0.name (ap (shown s c) (sym of.1) ∙ listed.1)),
      λ h.
          exactly.1 (
            subst (λ l. Contains l line) (sym made)
                (subst (Contains (map console_line s.board.consoles)) (sym h.1)
                (makes console_line s.board.consoles h.0 h.2)),
            ap (shown s c) h.1 ∙ is_shown s c (codes "MVS.DISPLAY.CN") h.0.name h.3,
          ),
    )

-- the line of one unit
one_of : (o : Option UnitRow) (line : Line) → Contains (lines_of o) line → (unit : UnitRow) × (line ≡ unit_line unit) × (o ≡ Some unit)
one_of None line h = absurd (omega (arith, h.1))
one_of (Some unit) line (zero, low, is) = (unit, sym is, refl)
one_of (Some unit) line (suc k, low, is) = absurd (omega (arith, low))

the_one : (unit : UnitRow) → Contains (lines_of (Some unit)) (unit_line unit)
the_one unit = (0, omega arith, refl)

pub the_unit : ListsTheUnit
the_unit s c name why lines rule new acts line =
    let made : acts.act.lines ≡ lines_of (unit_at s.board name.value) = search (rules, acts.makes) in
    let exactly = lists_exactly s c (command.DisplayUnit name) why lines rule new acts line in (
      λ h.
          let listed = exactly.0 h in
          let of = one_of (unit_at s.board name.value) line (subst (λ l. Contains l line) made listed.0) in
          (of.0, of.1, of.2, may_be s c (codes "MVS.DISPLAY.JOB") of.0.name (ap (shown s c) (sym of.1) ∙ listed.1)),
      λ h.
          exactly.1 (
            subst (λ l. Contains l line) (sym (made ∙ ap lines_of h.2)) (subst (Contains (lines_of (Some h.0))) (sym h.1) (the_one h.0)),
            ap (shown s c) h.1 ∙ is_shown s c (codes "MVS.DISPLAY.JOB") h.0.name h.3,
          ),
    )

pub each_unit_once : ListsEachUnitOnce
each_unit_once s c why lines rule new acts =
    let returned : lines ≡ filter (shown s c) acts.act.lines = search (rules, acts.answered) in
    let made : acts.act.lines ≡ map unit_line s.board.units = search (rules, acts.makes) in
    returned ∙ ap (filter (shown s c)) made

pub each_console_once : ListsEachConsoleOnce
each_console_once s c why lines rule new acts =
    let returned : lines ≡ filter (shown s c) acts.act.lines = search (rules, acts.answered) in
    let made : acts.act.lines ≡ map console_line s.board.consoles = search (rules, acts.makes) in
    returned ∙ ap (filter (shown s c)) made

pub the_unit_once : ListsTheUnitOnce
the_unit_once s c name why lines rule new acts =
    let returned : lines ≡ filter (shown s c) acts.act.lines = search (rules, acts.answered) in
    let made : acts.act.lines ≡ lines_of (unit_at s.board name.value) = search (rules, acts.makes) in
    returned ∙ ap (filter (shown s c)) made
