-- The lines of answers.
use Rattle.std.specs.Prelude.{
  ℕ,
  ◌-◌,
  Bool,
  true,
  false,
  List,
  [],
  ◌∷◌,
  ◌++◌,
  length,
  replicate,
  Option,
  Some,
  None,
  codes,
}
use Rattle.opc_names.specs.Spellings.{auth_text}
pub use Rattle.opc_names.specs.Spellings.{two_digits}
use Rattle.opc_board.specs.declared.rows.UnitKind.{UnitKind}
use Rattle.opc_board.specs.declared.rows.UnitKind.TheVariants.{Job, Stc, Tsu}
use Rattle.opc_board.specs.declared.rows.UnitRow.{UnitRow}
use Rattle.opc_board.specs.declared.rows.DeviceRow.{DeviceRow}
use Rattle.opc_board.specs.declared.rows.ConsoleRow.{ConsoleRow}
use Rattle.opc_board.specs.declared.line.Line.{Line}
use Rattle.opc_board.specs.declared.line.Item.TheVariants.{Plain, Unit, Console}

-- a text with spaces after it up to the width
abbrev pub left : ℕ → List ℕ → List ℕ
left width text = text ++ replicate (width - length text) 32

-- columns with one space (32 in ASCII) between them
abbrev pub columns : List (List ℕ) → List ℕ
columns [] = []
columns (text ∷ []) = text
columns (text ∷ (next ∷ texts)) = text ++ 32 ∷ columns (next ∷ texts)

-- the text, or what stands for none
abbrev pub text_or : List ℕ → Option (List ℕ) → List ℕ
text_or none (Some text) = text
text_or none None = none

abbrev pub online_text : Bool → List ℕ
online_text true = codes "ONLINE"
online_text false = codes "OFFLINE"

abbrev pub activity_text : Bool → List ℕ
activity_text true = codes "STOPPING"
activity_text false = codes "ACTIVE"

abbrev pub monitor_text : Bool → List ℕ
monitor_text true = codes "MN"
monitor_text false = codes "--"

abbrev pub kind_text : UnitKind → List ℕ
kind_text Job = codes "JOB"
kind_text (Stc member) = codes "STC"
kind_text Tsu = codes "TSU"

-- a started task's line ends in its member
abbrev pub member_columns : UnitKind → List (List ℕ)
member_columns Job = []
member_columns (Stc member) = member ∷ []
member_columns Tsu = []

abbrev pub unit_text : UnitRow → List ℕ
unit_text u = columns (left 8 u.name ∷ kind_text u.kind ∷ activity_text u.stopping ∷ member_columns u.kind)

abbrev pub device_text : DeviceRow → List ℕ
device_text d = columns (d.number ∷ left 7 (online_text d.online) ∷ left 6 (text_or (codes "------") d.volume)
    ∷ text_or (codes "-") d.unit ∷ [])

abbrev pub console_text : ConsoleRow → List ℕ
console_text c = columns (left 8 c.name ∷ left 7 (online_text c.online) ∷ monitor_text c.monitor ∷ auth_text c.auth
    ∷ text_or (codes "-") c.user ∷ [])

abbrev pub reply_text : ℕ → List ℕ → List ℕ
reply_text id text = columns (two_digits id ∷ text ∷ [])

-- lines, with what they are about
abbrev pub plain : List ℕ → Line
plain text = record { item = Plain; text = text }

abbrev pub unit_line : UnitRow → Line
unit_line u = record { item = Unit u.name; text = unit_text u }

-- the line of a unit that is there
abbrev pub lines_of : Option UnitRow → List Line
lines_of None = []
lines_of (Some unit) = unit_line unit ∷ []

abbrev pub device_line : DeviceRow → Line
device_line d = plain (device_text d)

abbrev pub console_line : ConsoleRow → Line
console_line c = record { item = Console c.name; text = console_text c }

abbrev pub reply_line : ℕ → List ℕ → Line
reply_line id text = plain (reply_text id text)
