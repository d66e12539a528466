-- The edits by which one board becomes another.
use Rattle.std.specs.Prelude.{
  ◌==◌,
  ◌&&◌,
  ℕ,
  Bool,
  true,
  false,
  not,
  List,
  [],
  ◌∷◌,
  ◌++◌,
  Option,
  Some,
  None,
  filter,
  find,
  map,
}
use Rattle.std.specs.Option.{is_none}
use Rattle.std.specs.Str.{bytes_eq}
use Rattle.opc_names.specs.Spellings.{auth_text}
use Rattle.opc_terms.specs.Modes.{mode_text}
use Rattle.opc_board.specs.declared.board.BoardRows.{BoardRows}
use Rattle.opc_board.specs.declared.rows.ConsoleRow.{ConsoleRow}
use Rattle.opc_board.specs.declared.rows.DeviceRow.{DeviceRow}
use Rattle.opc_board.specs.declared.rows.ReplyRow.{ReplyRow}
use Rattle.opc_board.specs.declared.rows.UnitKind.{UnitKind}
use Rattle.opc_board.specs.declared.rows.UnitKind.TheVariants.{Job, Stc, Tsu}
use Rattle.opc_board.specs.declared.rows.UnitRow.{UnitRow}
use Rattle.opc_state.specs.declared.change.Edit.{Edit}
use Rattle.opc_state.specs.declared.change.Edit.TheVariants as edit

-- the old rows whose keys the new ones lack
abbrev pub gone : {R : Type 0} → (R → R → Bool) → List R → List R → List R
gone is_at old new = filter (λ r. is_none (find (λ q. is_at q r) new)) old

-- whether a row is what the old one was
abbrev pub as_it_was : {R : Type 0} → (R → R → Bool) → Option R → R → Bool
as_it_was is_same None row = false
as_it_was is_same (Some old) row = is_same old row

-- the new rows that the old ones lack, or have with other contents
abbrev pub fresh : {R : Type 0} → (R → R → Bool) → (R → R → Bool) → List R → List R → List R
fresh is_at is_same old new = filter (λ r. not (as_it_was is_same (find (λ q. is_at q r) old) r)) new

-- what is gone is removed, and what is fresh is put
abbrev pub part_difference : {R : Type 0} → (R → R → Bool) → (R → R → Bool) → (R → Edit) → (R → Edit) → List R → List R
    → List Edit
part_difference is_at is_same removal put old new =
    map removal (gone is_at old new) ++ map put (fresh is_at is_same old new)

-- which rows have one key
abbrev pub unit_at : UnitRow → UnitRow → Bool
unit_at u v = bytes_eq u.name v.name

abbrev pub device_at : DeviceRow → DeviceRow → Bool
device_at d e = bytes_eq d.number e.number

abbrev pub console_at : ConsoleRow → ConsoleRow → Bool
console_at c d = bytes_eq c.name d.name

abbrev pub reply_at : ReplyRow → ReplyRow → Bool
reply_at r q = r.id == q.id

-- and which are the same
abbrev pub same_flag : Bool → Bool → Bool
same_flag true b = b
same_flag false b = not b

abbrev pub same_text : Option (List ℕ) → Option (List ℕ) → Bool
same_text None None = true
same_text (Some a) (Some b) = bytes_eq a b
same_text (Some a) None = false
same_text None (Some b) = false

abbrev pub same_kind : UnitKind → UnitKind → Bool
same_kind Job Job = true
same_kind Job (Stc n) = false
same_kind Job Tsu = false
same_kind (Stc m) Job = false
same_kind (Stc m) (Stc n) = bytes_eq m n
same_kind (Stc m) Tsu = false
same_kind Tsu Job = false
same_kind Tsu (Stc n) = false
same_kind Tsu Tsu = true

abbrev pub same_unit : UnitRow → UnitRow → Bool
same_unit u v = bytes_eq u.name v.name && (same_kind u.kind v.kind
    && (same_flag u.cancelable v.cancelable && (same_flag u.stopping v.stopping && same_text u.last_text v.last_text)))

abbrev pub same_device : DeviceRow → DeviceRow → Bool
same_device d e = bytes_eq d.number e.number
    && (same_flag d.online e.online && (same_text d.volume e.volume && same_text d.unit e.unit))

abbrev pub same_console : ConsoleRow → ConsoleRow → Bool
same_console c d =
    bytes_eq c.name d.name && (bytes_eq (auth_text c.auth) (auth_text d.auth)
    && (bytes_eq (mode_text c.mode) (mode_text d.mode)
    && (same_flag c.online d.online && (same_text c.user d.user && same_flag c.monitor d.monitor))))

abbrev pub same_reply : ReplyRow → ReplyRow → Bool
same_reply r q = r.id == q.id && bytes_eq r.text q.text

abbrev pub unit_removal : UnitRow → Edit
unit_removal u = edit.RemoveUnit u.name

abbrev pub device_removal : DeviceRow → Edit
device_removal d = edit.RemoveDevice d.number

abbrev pub console_removal : ConsoleRow → Edit
console_removal c = edit.RemoveConsole c.name

abbrev pub reply_removal : ReplyRow → Edit
reply_removal r = edit.RemoveReply r.id

-- the day is halted, or goes on
abbrev pub halted_difference : Bool → Bool → List Edit
halted_difference true true = []
halted_difference false false = []
halted_difference true false = edit.SetHalted false ∷ []
halted_difference false true = edit.SetHalted true ∷ []

-- part by part, and then what is added to histories
abbrev pub board_difference : BoardRows → BoardRows → List Edit
board_difference old new =
    part_difference unit_at same_unit unit_removal edit.PutUnit old.units new.units
    ++ part_difference device_at same_device device_removal edit.PutDevice old.devices new.devices
    ++ part_difference console_at same_console console_removal edit.PutConsole old.consoles new.consoles
    ++ part_difference reply_at same_reply reply_removal edit.PutReply old.replies new.replies
    ++ halted_difference old.halted new.halted
    ++ map edit.AddAnswered new.answered
    ++ map edit.AddLog new.log
    ++ map edit.AddMessage new.messages
