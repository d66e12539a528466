-- Two states in which a request is answered differently, whichever it is, except RESUME.
use Rattle.std.proofs.Common.{◌≡◌, ◌∙◌, ◌⊎◌, inl, inr, ℕ, ◌==◌, false, true, List, [], ◌∷◌, Some, None, refl, sym, ap, arith}
use Rattle.std.proofs.lemmas.Bool.Decides.{nat_tests}
use Rattle.opc_names.specs.declared.auth.Auth.TheVariants.{Info}
use Rattle.opc_terms.specs.declared.mode.Mode.TheVariants.{Optional}
use Rattle.opc_terms.specs.declared.fault.Fault.TheVariants as fault
use Rattle.opc_board.specs.declared.board.BoardRows.{BoardRows}
use Rattle.opc_board.specs.declared.event.Event.{Event}
use Rattle.opc_board.specs.declared.event.Event.TheVariants as event
use Rattle.opc_board.specs.declared.fault.BoardFault.TheVariants as board
use Rattle.opc_board.specs.declared.rows.ConsoleRow.{ConsoleRow}
use Rattle.opc_board.specs.declared.rows.DeviceRow.{DeviceRow}
use Rattle.opc_board.specs.declared.rows.ReplyRow.{ReplyRow}
use Rattle.opc_board.specs.declared.rows.UnitKind.TheVariants.{Job}
use Rattle.opc_board.specs.declared.rows.UnitRow.{UnitRow}
use Rattle.opc_board.specs.Effect.{event_effect}
use Rattle.opc_board.specs.Invariants.{console_at, device_at, reply_at, unit_at}
use Rattle.opc_board.specs.Outcome.{◌>>=◌, done, found}
use Rattle.opc_board.specs.Units.{without_unit}
use Rattle.opc_board.proofs.Names.{is_itself}
use Rattle.opc_state.specs.State.{State, empty}
use Rattle.opc_state.specs.Changes.{with_consoles, with_devices, with_halted, with_replies, with_units}
use Rattle.opc_machine.specs.declared.request.Answer.{Answer}
use Rattle.opc_machine.specs.declared.request.Answer.TheVariants.{Done, Refused}
use Rattle.opc_machine.specs.Inputs.{Input, console_of}
use Rattle.opc_machine.specs.Inputs as input
use Rattle.opc_machine.specs.Machine.{IsAborted, Step}
use Rattle.opc_machine_laws.proofs.Leaving.{event_faults, events_wherever}
use Rattle.opc_machine_laws.proofs.Refusing.{missing_console, offline_console}
use Rattle.opc_cli.specs.Shut.{MayBeRefused}

-- ---- rooms with one thing in them

abbrev offline : List ℕ → ConsoleRow
offline name = record { name = name; auth = Info; mode = Optional; online = false; user = None; monitor = false }

abbrev with_offline : List ℕ → State
with_offline name = with_consoles (offline name ∷ []) empty

offline_there : (name : List ℕ) → console_at (with_offline name).board name ≡ Some (offline name)
offline_there name = rw (is_itself name) refl

abbrev job : List ℕ → UnitRow
job name = record { name = name; kind = Job; cancelable = true; stopping = false; last_text = None }

abbrev with_job : List ℕ → State
with_job name = with_units (job name ∷ []) empty

job_there : (name : List ℕ) → unit_at (with_job name).board name ≡ Some (job name)
job_there name = rw (is_itself name) refl

abbrev free_device : List ℕ → DeviceRow
free_device number = record { number = number; online = true; volume = None; unit = None }

abbrev with_device : List ℕ → State
with_device number = with_devices (free_device number ∷ []) empty

device_there : (number : List ℕ) → device_at (with_device number).board number ≡ Some (free_device number)
device_there number = rw (is_itself number) refl

abbrev asked : ℕ → ReplyRow
asked id = record { id = id; text = [] }

abbrev with_asked : ℕ → State
with_asked id = with_replies (asked id ∷ []) empty

same : (id : ℕ) → (id == id) ≡ true
same id = grind (arith, nat_tests)

asked_there : (id : ℕ) → reply_at (with_asked id).board id ≡ Some (asked id)
asked_there id = rw (same id) refl

-- ---- an answer in both states is neither

not_both : (answer : Answer) (reported other : Answer) → (reported ≡ other → ⊥) → IsAborted answer ⊎ (answer ≡ reported)
    → IsAborted answer ⊎ (answer ≡ other) → IsAborted answer
not_both answer reported other apart (inl up) second = up
not_both answer reported other apart (inr first) (inl up) = up
not_both answer reported other apart (inr first) (inr second) = absurd (apart (sym first ∙ second))

abbrev ReportApart : Input → State → State → Type 0
ReportApart r s t = (moment : ℕ) (answer : Answer) (new other : State) → Step s moment r answer new → Step t moment r answer other → IsAborted answer

abbrev AreApart : Input → Type 0
AreApart r = (s : State) × (t : State) × ReportApart r s t

at_console : (r : Input) (name : List ℕ) → console_of r ≡ Some name → AreApart r
at_console r name names = (
  empty,
  with_offline name,
  λ moment answer new other one two.
      not_both answer (Refused fault.NoConsole None) (Refused fault.ConsoleOffline None) (λ is. cc)
      (missing_console empty r name names refl moment answer new one)
      (offline_console (with_offline name) r name (offline name) names (offline_there name) refl moment answer other two),
)

happens : (s : State) (e : Event) (b : BoardRows) → event_effect s.board e ≡ done b
    → (moment : ℕ) (answer : Answer) (new : State) → Step s moment (input.Event e) answer new → IsAborted answer
    ⊎ (answer ≡ Done [] None)
happens s e b does moment answer new step = elim (events_wherever s moment e _ answer new does step) [ inl up ↦ inl up | inr it ↦ inr it.answered ]

an_event : (e : Event) → MayBeRefused (input.Event e) → AreApart (input.Event e)
an_event (event.JobIn name kind cancelable) may = (
  empty,
  with_halted true empty,
  λ moment answer new other one two.
      not_both answer (Done [] None) (Refused fault.Halted None) (λ is. cc)
      (happens empty (event.JobIn name kind cancelable) _ refl moment answer new one)
      (event_faults (with_halted true empty) moment (event.JobIn name kind cancelable) board.Halted answer other refl two),
)
an_event (event.JobEnd name) may = (
  empty,
  with_job name,
  λ moment answer new other one two.
      not_both answer (Refused fault.NoUnit None) (Done [] None) (λ is. cc)
      (event_faults empty moment (event.JobEnd name) board.NoUnit answer new refl one)
      (happens (with_job name) (event.JobEnd name) (without_unit name (with_job name).board)
      (ap (λ o. found board.NoUnit o >>= λ unit. done (without_unit name (with_job name).board)) (job_there name))
      moment answer other two),
)
an_event (event.Ask id text) may = (
  empty,
  with_asked id,
  λ moment answer new other one two.
      not_both answer (Done [] None) (Refused fault.ReplyExists None) (λ is. cc)
      (happens empty (event.Ask id text) _ refl moment answer new one)
      (event_faults (with_asked id) moment (event.Ask id text) board.ReplyExists answer other (rw (asked_there id) refl) two),
)
an_event (event.Attach number) may = (
  empty,
  with_device number,
  λ moment answer new other one two.
      not_both answer (Done [] None) (Refused fault.DeviceState None) (λ is. cc)
      (happens empty (event.Attach number) _ refl moment answer new one)
      (event_faults (with_device number) moment (event.Attach number) board.DeviceState answer other (rw (device_there number) refl) two),
)
an_event (event.Allocate number name) may = (
  empty,
  with_device number,
  λ moment answer new other one two.
      not_both answer (Refused fault.NoDevice None) (Refused fault.NoUnit None) (λ is. cc)
      (event_faults empty moment (event.Allocate number name) board.NoDevice answer new refl one)
      (event_faults (with_device number) moment (event.Allocate number name) board.NoUnit answer other (rw (device_there number) refl) two),
)
an_event (event.Free number) may = (
  empty,
  with_device number,
  λ moment answer new other one two.
      not_both answer (Refused fault.NoDevice None) (Refused fault.DeviceState None) (λ is. cc)
      (event_faults empty moment (event.Free number) board.NoDevice answer new refl one)
      (event_faults (with_device number) moment (event.Free number) board.DeviceState answer other (rw (device_there number) refl) two),
)
an_event event.Resume may = absurd may

pub apart : (r : Input) → MayBeRefused r → AreApart r
apart (input.Command name text) may = at_console (input.Command name text) name refl
apart (input.Admin name operation) may = at_console (input.Admin name operation) name refl
apart (input.ListProfiles name class) may = at_console (input.ListProfiles name class) name refl
apart (input.ListAccount name from count) may = at_console (input.ListAccount name from count) name refl
apart (input.Import name batch all) may = at_console (input.Import name batch all) name refl
apart (input.Event e) may = an_event e may
