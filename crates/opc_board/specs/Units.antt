-- What happens to units.
use Rattle.std.specs.Prelude.{ℕ, Bool, true, false, not, if◌then◌else◌, List, [], ◌∷◌, Option, Some, None, filter, map}
use Rattle.std.specs.Option.{is_some}
use Rattle.opc_rows.specs.Ordered.{put, changed}
use Rattle.opc_board.specs.declared.rows.UnitKind.{UnitKind}
use Rattle.opc_board.specs.declared.rows.UnitKind.TheVariants.{Job, Stc, Tsu}
use Rattle.opc_board.specs.declared.rows.UnitRow.{UnitRow}
use Rattle.opc_board.specs.declared.rows.DeviceRow.{DeviceRow}
use Rattle.opc_board.specs.declared.board.BoardRows.{BoardRows}
use Rattle.opc_board.specs.declared.fault.BoardFault.{BoardFault}
use Rattle.opc_board.specs.declared.fault.BoardFault.TheVariants.{
  NoUnit,
  NonCancelable,
  Cancelable,
  UnitExists,
  Halted,
  WrongKind,
}
use Rattle.opc_board.specs.Invariants.{Name, is, unit_before, unit_at}
use Rattle.opc_board.specs.Outcome.{BoardOutcome, done, faults_or, found, ◌>>=◌}

abbrev pub is_tsu : UnitKind → Bool
is_tsu Job = false
is_tsu (Stc member) = false
is_tsu Tsu = true

abbrev pub is_holder : Name → Option Name → Bool
is_holder name (Some holder) = is holder name
is_holder name None = false

-- a device, free if the unit had it
abbrev pub freed : Name → DeviceRow → DeviceRow
freed name d = if is_holder name d.unit then record d { unit = None } else d

-- the unit leaves the board and frees its devices
abbrev pub without_unit : Name → BoardRows → BoardRows
without_unit name b = record b {
  units = filter (λ u. not (is u.name name)) b.units;
  devices = map (freed name) b.devices;
}

-- C name: a unit that C may end leaves; C U=user: so does a user's session
abbrev pub cancel_faults : UnitRow → List (Bool × BoardFault)
cancel_faults unit = (is_tsu unit.kind, WrongKind) ∷ (not unit.cancelable, NonCancelable) ∷ []

abbrev pub cancel : Name → BoardRows → BoardOutcome
cancel name b = do
  unit ← found NoUnit (unit_at b name)
  faults_or (cancel_faults unit) (done (without_unit name b))

abbrev pub cancel_user_faults : UnitRow → List (Bool × BoardFault)
cancel_user_faults unit = (not (is_tsu unit.kind), WrongKind) ∷ (not unit.cancelable, NonCancelable) ∷ []

abbrev pub cancel_user : Name → BoardRows → BoardOutcome
cancel_user name b = do
  unit ← found NoUnit (unit_at b name)
  faults_or (cancel_user_faults unit) (done (without_unit name b))

-- FORCE name: a unit that C may not end leaves
abbrev pub force_faults : UnitRow → List (Bool × BoardFault)
force_faults unit = (unit.cancelable, Cancelable) ∷ []

abbrev pub force : Name → BoardRows → BoardOutcome
force name b = do
  unit ← found NoUnit (unit_at b name)
  faults_or (force_faults unit) (done (without_unit name b))

-- the end of a job: a unit leaves
abbrev pub job_end : Name → BoardRows → BoardOutcome
job_end name b = do
  unit ← found NoUnit (unit_at b name)
  done (without_unit name b)

-- a new unit comes, on a day that is not halted
abbrev pub new_unit : Name → UnitKind → Bool → UnitRow
new_unit name kind cancelable = record {
  name = name;
  kind = kind;
  cancelable = cancelable;
  stopping = false;
  last_text = None;
}

abbrev pub come_faults : Name → BoardRows → List (Bool × BoardFault)
come_faults name b = (b.halted, Halted) ∷ (is_some (unit_at b name), UnitExists) ∷ []

abbrev pub job_in : Name → UnitKind → Bool → BoardRows → BoardOutcome
job_in name kind cancelable b = faults_or (come_faults name b)
    (done (record b { units = put unit_before (new_unit name kind cancelable) b.units }))

-- S member.id: a started task comes
abbrev pub start : Name → Name → BoardRows → BoardOutcome
start member id b = job_in id (Stc member) true b

-- the board with a change at one unit
abbrev pub at_unit : Name → (UnitRow → UnitRow) → BoardRows → BoardRows
at_unit name change b = record b { units = changed (λ u. is u.name name) change b.units }

-- P name: the unit is to stop; F name,text: it is given a text
abbrev pub kind_faults : UnitRow → List (Bool × BoardFault)
kind_faults unit = (is_tsu unit.kind, WrongKind) ∷ []

abbrev pub stop : Name → BoardRows → BoardOutcome
stop name b = do
  unit ← found NoUnit (unit_at b name)
  faults_or (kind_faults unit) (done (at_unit name (λ u. record u { stopping = true }) b))

abbrev pub modify : Name → List ℕ → BoardRows → BoardOutcome
modify name text b = do
  unit ← found NoUnit (unit_at b name)
  faults_or (kind_faults unit) (done (at_unit name (λ u. record u { last_text = Some text }) b))
