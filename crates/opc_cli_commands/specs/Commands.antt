-- The table of commands: each form of a command, and what a command of this form needs.
use Rattle.std.specs.Prelude.{◌≤◌, ℕ, List, [], ◌∷◌, ◌++◌, Option, Some, None, Result, Ok, Err, codes, flat_map, length}
use Rattle.std.specs.List.{AllByRecursion}
use Rattle.std.specs.Str.{IsAscii}
use Rattle.opc_names.specs.Spellings.{group_text, level_text}
use Rattle.opc_terms.specs.declared.need.Need.{Need}
use Rattle.opc_terms.specs.declared.unit_kind.UnitKindAt.{UnitKindAt}
use Rattle.opc_terms.specs.declared.unit_kind.UnitKindAt.TheVariants.{Job, Stc, Tsu}
use Rattle.opc_reader_commands.specs.declared.command.Command.{Command}
use Rattle.opc_reader.specs.declared.line.ReadFault.{ReadFault}
use Rattle.opc_reader.specs.Reading.{reading}
use Rattle.opc_table.specs.Table.{need}
use Rattle.opc_board.specs.Texts.{columns, left}
use Rattle.opc_cli_commands.specs.declared.form.CommandForm.{CommandForm}
use Rattle.opc_cli_commands.specs.declared.form.CommandForm.TheVariants.{Plain, Session, StartedTask, Such}

-- A form of a command: how it is shown, a line of it, and the kind of the unit that the line names.
pub record TableForm : Type 0 where
  pub shown : List ℕ
  pub line : List ℕ
  pub kind : UnitKindAt

-- a line that is shown as it stands
abbrev pub plain : List ℕ → TableForm
plain line = record { shown = line; line = line; kind = Job }

-- a form with a word that stands for a number, a device or an authority, and a line of it
abbrev pub such : (shown line : List ℕ) → TableForm
such shown line = record { shown = shown; line = line; kind = Job }

-- a line that names a started task, of a member of this name
abbrev pub started_task : List ℕ → TableForm
started_task line = record { shown = line; line = line; kind = Stc (codes "MEMBER") }

-- a line that names a user's session
abbrev pub session : List ℕ → TableForm
session line = record { shown = line; line = line; kind = Tsu }

-- a form as the code has it
abbrev pub form_of : CommandForm → TableForm
form_of (Plain line) = plain line.now
form_of (Such shown line) = such shown.now line.now
form_of (StartedTask line) = started_task line.now
form_of (Session line) = session line.now

abbrev pub shown_of : CommandForm → List ℕ
shown_of form = (form_of form).shown

abbrev pub line_of : CommandForm → List ℕ
line_of form = (form_of form).line

abbrev pub kind_of : CommandForm → UnitKindAt
kind_of form = (form_of form).kind

-- What is shown of forms is ASCII, and short.
abbrev pub AreAscii : List CommandForm → Type 0
AreAscii forms = AllByRecursion (λ form. IsAscii (shown_of form)) forms

abbrev pub AreShort : List CommandForm → Type 0
AreShort forms = AllByRecursion (λ form. length (shown_of form) ≤ 1000) forms

abbrev pub display_forms : List TableForm
display_forms =
    plain (codes "D A,L") ∷ plain (codes "D A,name") ∷ plain (codes "D U") ∷ plain (codes "D C") ∷ plain (codes "D R")
    ∷ []

-- A line stands once more for a started task, or for a session, if it needs another resource then.
abbrev pub unit_forms : List TableForm
unit_forms =
    plain (codes "C name")
    ∷ started_task (codes "C name")
    ∷ plain (codes "C U=user")
    ∷ plain (codes "FORCE name")
    ∷ started_task (codes "FORCE name")
    ∷ session (codes "FORCE name")
    ∷ plain (codes "S member")
    ∷ plain (codes "S member.id")
    ∷ plain (codes "P name")
    ∷ started_task (codes "P name")
    ∷ plain (codes "F name,text")
    ∷ started_task (codes "F name,text")
    ∷ such (codes "R id,text") (codes "R 1,text")
    ∷ []

abbrev pub device_forms : List TableForm
device_forms =
    such (codes "V dev,ONLINE") (codes "V 0A80,ONLINE")
    ∷ such (codes "V dev,OFFLINE") (codes "V 0A80,OFFLINE")
    ∷ such (codes "M dev,VOL=vol") (codes "M 0A80,VOL=vol")
    ∷ such (codes "U dev") (codes "U 0A80")
    ∷ such (codes "G dev,dev") (codes "G 0A80,0A81")
    ∷ []

abbrev pub console_forms : List TableForm
console_forms =
    plain (codes "V CN(name),ONLINE")
    ∷ plain (codes "V CN(name),OFFLINE")
    ∷ such (codes "V CN(name),AUTH=auth") (codes "V CN(name),AUTH=ALL")
    ∷ plain (codes "E CN(name)")
    ∷ plain (codes "SE 'text',USER=(user)")
    ∷ plain (codes "L 'text'")
    ∷ plain (codes "MN JOBNAMES")
    ∷ plain (codes "PM JOBNAMES")
    ∷ plain (codes "Z EOD")
    ∷ plain (codes "LOGON user,password")
    ∷ plain (codes "LOGOFF")
    ∷ []

-- all of them
abbrev pub forms : List TableForm
forms = display_forms ++ unit_forms ++ device_forms ++ console_forms

-- what a line needs, if it is a command that needs anything
abbrev pub need_of : Result Command ReadFault → UnitKindAt → Option Need
need_of (Ok command) kind = need command kind
need_of (Err fault) kind = None

-- 10 is the line feed
abbrev pub need_columns : Option Need → List (List ℕ)
need_columns None = left 6 (codes "-") ∷ left 7 (codes "-") ∷ (codes "-" ++ 10 ∷ []) ∷ []
need_columns (Some need) =
    left 6 (group_text need.group) ∷ left 7 (level_text need.level) ∷ (need.resource ++ 10 ∷ []) ∷ []

-- the row of a form: the group, the level and the resource that its line needs
abbrev pub form_row : TableForm → List ℕ
form_row form = columns (left 21 form.shown ∷ need_columns (need_of (reading form.line) form.kind))

abbrev pub form_rows : List TableForm → List ℕ
form_rows forms = flat_map form_row forms

abbrev pub header : List ℕ
header = codes "COMMAND               GROUP  LEVEL   RESOURCE\n"

-- the whole table
abbrev pub table_text : List ℕ
table_text = header ++ form_rows forms
