-- What a board has at a name, and what holds of every board.
use Rattle.std.specs.Prelude.{◌≡◌, ℕ, Bool, true, false, ◌&&◌, ◌==◌, nat_eq, List, Option, Some, None, IfSome}
use Rattle.std.specs.Option.{is_some}
use Rattle.std.specs.List.{find, list_any, AllByRecursion}
use Rattle.std.specs.Cmp.Lexicographic.{pointwise, slice_cmp}
use Rattle.std.specs.Ordering.{nat_cmp, is_lt}
use Rattle.opc_names.specs.declared.auth.Auth.{Auth}
use Rattle.opc_names.specs.declared.auth.Auth.TheVariants.{
  Master,
  All,
  Info,
  Sys,
  Io,
  Cons,
  SysIo,
  SysCons,
  IoCons,
  SysIoCons,
}
use Rattle.opc_terms.specs.declared.unit_kind.UnitKindAt.{UnitKindAt}
use Rattle.opc_terms.specs.declared.unit_kind.UnitKindAt.TheVariants as at
use Rattle.opc_rows.specs.Ordered.{Ascends}
use Rattle.opc_board.specs.declared.rows.UnitKind.{UnitKind}
use Rattle.opc_board.specs.declared.rows.UnitKind.TheVariants.{Job, Stc, Tsu}
use Rattle.opc_board.specs.declared.rows.UnitRow.{UnitRow}
use Rattle.opc_board.specs.declared.rows.DeviceRow.{DeviceRow}
use Rattle.opc_board.specs.declared.rows.ConsoleRow.{ConsoleRow}
use Rattle.opc_board.specs.declared.rows.ReplyRow.{ReplyRow}
use Rattle.opc_board.specs.declared.board.BoardRows.{BoardRows}

-- a name or number, by its characters
abbrev pub Name : Type 0
Name = List ℕ

abbrev pub is : Name → Name → Bool
is = pointwise nat_eq

-- one name before another, by ASCII code
abbrev pub earlier : Name → Name → Bool
earlier a b = is_lt (slice_cmp nat_cmp a b)

abbrev pub unit_before : UnitRow → UnitRow → Bool
unit_before a b = earlier a.name b.name

abbrev pub device_before : DeviceRow → DeviceRow → Bool
device_before a b = earlier a.number b.number

abbrev pub console_before : ConsoleRow → ConsoleRow → Bool
console_before a b = earlier a.name b.name

abbrev pub reply_before : ReplyRow → ReplyRow → Bool
reply_before a b = is_lt (nat_cmp a.id b.id)

-- the unit of a name, if it is on the board, and so for devices, consoles and open replies
abbrev pub unit_in : List UnitRow → Name → Option UnitRow
unit_in units name = find (λ u. is u.name name) units

abbrev pub unit_at : BoardRows → Name → Option UnitRow
unit_at b name = unit_in b.units name

abbrev pub device_at : BoardRows → Name → Option DeviceRow
device_at b number = find (λ d. is d.number number) b.devices

abbrev pub console_at : BoardRows → Name → Option ConsoleRow
console_at b name = find (λ c. is c.name name) b.consoles

abbrev pub reply_at : BoardRows → ℕ → Option ReplyRow
reply_at b id = find (λ r. r.id == id) b.replies

-- what the unit of a name is
abbrev pub kind_found : UnitKind → UnitKindAt
kind_found Job = at.Job
kind_found (Stc member) = at.Stc member
kind_found Tsu = at.Tsu

abbrev pub unit_kind : Option UnitRow → UnitKindAt
unit_kind None = at.Absent
unit_kind (Some u) = kind_found u.kind

abbrev pub kind_at : BoardRows → Name → UnitKindAt
kind_at b name = unit_kind (unit_at b name)

-- a device in use is online, and its unit is on the board
abbrev pub IsHeld : List UnitRow → Bool → Option Name → Type 0
IsHeld units online unit = IfSome unit (λ name. (online ≡ true) × (is_some (unit_in units name) ≡ true))

abbrev pub IsHeldRightly : List UnitRow → DeviceRow → Type 0
IsHeldRightly units d = IsHeld units d.online d.unit

-- the same, as a test
abbrev pub holds_rightly : List UnitRow → Bool → Option Name → Bool
holds_rightly units online (Some name) = online && is_some (unit_in units name)
holds_rightly units online None = true

abbrev pub held_rightly : List UnitRow → DeviceRow → Bool
held_rightly units d = holds_rightly units d.online d.unit

-- The rows are in order, so that no name or number comes twice, and each device in use is online, with its
-- unit on the board.
pub record AreInvariants (units : List UnitRow) (devices : List DeviceRow) (consoles : List ConsoleRow)
    (replies : List ReplyRow) : Type 0 where
  pub units_rise : Ascends unit_before units
  pub devices_rise : Ascends device_before devices
  pub consoles_rise : Ascends console_before consoles
  pub replies_rise : Ascends reply_before replies
  pub held : AllByRecursion (IsHeldRightly units) devices

abbrev pub IsBoard : BoardRows → Type 0
IsBoard b = AreInvariants b.units b.devices b.consoles b.replies

-- an online console has AUTH MASTER
abbrev pub is_master_auth : Auth → Bool
is_master_auth Master = true
is_master_auth All = false
is_master_auth Info = false
is_master_auth Sys = false
is_master_auth Io = false
is_master_auth Cons = false
is_master_auth SysIo = false
is_master_auth SysCons = false
is_master_auth IoCons = false
is_master_auth SysIoCons = false

abbrev pub is_master : ConsoleRow → Bool
is_master c = c.online && is_master_auth c.auth

abbrev pub has_master : List ConsoleRow → Bool
has_master consoles = list_any is_master consoles
