-- What displays list, for those who read them.
use Rattle.std.specs.Prelude.{◌≡◌, ◌↔◌, ℕ, true, List, [], ◌∷◌, Option, Some, Contains, codes, filter, map}
use Rattle.std.specs.Cmp.Lexicographic.{slice_cmp}
use Rattle.std.specs.Ordering.{nat_cmp}
use Rattle.opc_names.specs.declared.group.Group.TheVariants.{Info}
use Rattle.opc_names.specs.declared.level.Level.TheVariants.{Read}
use Rattle.opc_terms.specs.declared.rule.Rule.{Rule}
use Rattle.opc_policy.specs.declared.ruling.Ruling.TheVariants.{Allowed}
use Rattle.opc_reader_commands.specs.declared.command.Command.{Command}
use Rattle.opc_reader_commands.specs.declared.command.Command.TheVariants as command
use Rattle.opc_reader_commands.specs.declared.command.Operand.{Operand}
use Rattle.opc_reader_commands.specs.Quotes.{text_value}
use Rattle.opc_table.specs.Table.{qualified}
use Rattle.opc_rows.specs.Ordered.{IsInKeyOrder}
use Rattle.opc_board.specs.declared.board.BoardRows.{BoardRows}
use Rattle.opc_board.specs.declared.line.Item.TheVariants as item
use Rattle.opc_board.specs.declared.line.Line.{Line}
use Rattle.opc_board.specs.declared.rows.ConsoleRow.{ConsoleRow}
use Rattle.opc_board.specs.declared.rows.DeviceRow.{DeviceRow}
use Rattle.opc_board.specs.declared.rows.ReplyRow.{ReplyRow}
use Rattle.opc_board.specs.declared.rows.UnitRow.{UnitRow}
use Rattle.opc_board.specs.Invariants.{unit_at}
use Rattle.opc_board.specs.Footprint.{IsInOrder}
use Rattle.opc_board.specs.Texts.{console_line, device_line, lines_of, reply_line, unit_line}
use Rattle.opc_state.specs.State.{State}
use Rattle.opc_machine.specs.declared.request.Answer.TheVariants.{Done}
use Rattle.opc_machine.specs.Rulings.{ruling, shown}
use Rattle.opc_machine_laws.specs.Laws.{Acts}

-- A unit or a console may be shown: READ on its resource is allowed.
abbrev pub MayBeShown : State → ConsoleRow → List ℕ → List ℕ → Type 0
MayBeShown s console words name = (why : Rule) × (ruling s console (record {
  resource = qualified words name;
  level = Read;
  group = Info;
}) ≡ Allowed why)

-- The line of a unit or a console is about it. It is shown if and only if the unit or the console may be. A plain line,
-- as that of a device or a reply, always is.
pub record AreAbout (s : State) (console : ConsoleRow) : Type 0 where
  pub units : (unit : UnitRow) → (unit_line unit).item ≡ item.Unit unit.name
  pub consoles : (row : ConsoleRow) → (console_line row).item ≡ item.Console row.name
  pub devices : (device : DeviceRow) → (device_line device).item ≡ item.Plain
  pub replies : (id : ℕ) (text : List ℕ) → (reply_line id text).item ≡ item.Plain
  pub of_unit : (line : Line) (name : List ℕ) → line.item ≡ item.Unit name
      → (shown s console line ≡ true) ↔ MayBeShown s console (codes "MVS.DISPLAY.JOB") name
  pub of_console : (line : Line) (name : List ℕ) → line.item ≡ item.Console name
      → (shown s console line ≡ true) ↔ MayBeShown s console (codes "MVS.DISPLAY.CN") name
  pub plain : (line : Line) → line.item ≡ item.Plain → shown s console line ≡ true

abbrev pub LinesAreAboutWhatTheyList : Type 0
LinesAreAboutWhatTheyList = (s : State) (console : ConsoleRow) → AreAbout s console

-- D A,L lists each unit of the board that may be shown, and nothing else,
abbrev pub ListsEveryUnit : Type 0
ListsEveryUnit =
    (s : State) (console : ConsoleRow) (why : Rule) (lines : List Line) (rule : Option Rule) (new : State)
    → Acts s console command.DisplayUnits why (Done lines rule) new → (line : Line)
    → Contains lines line ↔ ((unit : UnitRow) × (line ≡ unit_line unit)
    × Contains s.board.units unit × MayBeShown s console (codes "MVS.DISPLAY.JOB") unit.name)

-- D A with a name that unit alone,
abbrev pub ListsTheUnit : Type 0
ListsTheUnit =
    (s : State) (console : ConsoleRow) (name : Operand (List ℕ)) (why : Rule) (lines : List Line) (rule : Option Rule)
    (new : State) → Acts s console (command.DisplayUnit name) why (Done lines rule) new → (line : Line)
    → Contains lines line ↔ ((unit : UnitRow) × (line ≡ unit_line unit) × (unit_at s.board name.value ≡ Some unit)
    × MayBeShown s console (codes "MVS.DISPLAY.JOB") unit.name)

-- and D C each console that may be shown.
abbrev pub ListsEveryConsole : Type 0
ListsEveryConsole =
    (s : State) (console : ConsoleRow) (why : Rule) (lines : List Line) (rule : Option Rule) (new : State)
    → Acts s console command.DisplayConsoles why (Done lines rule) new → (line : Line)
    → Contains lines line ↔ ((row : ConsoleRow) × (line ≡ console_line row)
    × Contains s.board.consoles row × MayBeShown s console (codes "MVS.DISPLAY.CN") row.name)

-- They list each of these once, in the order of the board.
abbrev pub ListsEachUnitOnce : Type 0
ListsEachUnitOnce =
    (s : State) (console : ConsoleRow) (why : Rule) (lines : List Line) (rule : Option Rule) (new : State)
    → Acts s console command.DisplayUnits why (Done lines rule) new
    → lines ≡ filter (shown s console) (map unit_line s.board.units)

abbrev pub ListsTheUnitOnce : Type 0
ListsTheUnitOnce =
    (s : State) (console : ConsoleRow) (name : Operand (List ℕ)) (why : Rule) (lines : List Line) (rule : Option Rule)
    (new : State) → Acts s console (command.DisplayUnit name) why (Done lines rule) new
    → lines ≡ filter (shown s console) (lines_of (unit_at s.board name.value))

abbrev pub ListsEachConsoleOnce : Type 0
ListsEachConsoleOnce =
    (s : State) (console : ConsoleRow) (why : Rule) (lines : List Line) (rule : Option Rule) (new : State)
    → Acts s console command.DisplayConsoles why (Done lines rule) new
    → lines ≡ filter (shown s console) (map console_line s.board.consoles)

-- The lines of a display are those of the board, in its order; R shows the reply that it answers, and no other command
-- shows anything.
abbrev pub lines_on : BoardRows → Command → List Line
lines_on b command.DisplayUnits = map unit_line b.units
lines_on b (command.DisplayUnit name) = lines_of (unit_at b name.value)
lines_on b command.DisplayDevices = map device_line b.devices
lines_on b command.DisplayConsoles = map console_line b.consoles
lines_on b command.DisplayReplies = map (λ (reply : ReplyRow). reply_line reply.id reply.text) b.replies
lines_on b (command.Reply id text) = reply_line id.value (text_value text.typed.text) ∷ []
lines_on b other = []

-- Of these a command that acts gives those that may be shown, and no other line.
abbrev pub CommandsReportTheirLines : Type 0
CommandsReportTheirLines =
    (s : State) (console : ConsoleRow) (k : Command) (why : Rule) (lines : List Line) (rule : Option Rule) (new : State)
    → Acts s console k why (Done lines rule) new
    → lines ≡ filter (shown s console) (lines_on s.board k)

-- A board that is in order is sorted by the names of its units and consoles and the numbers of its devices, by their
-- ASCII codes, and by the numbers of its replies.
pub record GoesByName (b : BoardRows) : Type 0 where
  pub units : IsInKeyOrder (slice_cmp nat_cmp) (λ (unit : UnitRow). unit.name) b.units
  pub devices : IsInKeyOrder (slice_cmp nat_cmp) (λ (device : DeviceRow). device.number) b.devices
  pub consoles : IsInKeyOrder (slice_cmp nat_cmp) (λ (console : ConsoleRow). console.name) b.consoles
  pub replies : IsInKeyOrder nat_cmp (λ (reply : ReplyRow). reply.id) b.replies

abbrev pub BoardsGoByName : Type 0
BoardsGoByName = (b : BoardRows) → IsInOrder b → GoesByName b
