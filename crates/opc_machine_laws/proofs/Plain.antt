-- Which faults are neither about authority nor those of a request that is aborted.
use Rattle.std.proofs.Common.{◌≡◌, inl, inr, Bool, true, false, if◌then◌else◌, List, [], ◌∷◌, Option, Some, None, Ok, Err, rules, subst}
use Rattle.std.specs.List.{AllByRecursion}
use Rattle.opc_terms.specs.declared.fault.Fault.{Fault}
use Rattle.opc_terms.specs.declared.fault.Fault.TheVariants as fault
use Rattle.opc_board.specs.declared.board.BoardRows.{BoardRows}
use Rattle.opc_board.specs.declared.event.Event.{Event}
use Rattle.opc_board.specs.declared.event.Event.TheVariants as event
use Rattle.opc_board.specs.declared.fault.BoardFault.{BoardFault}
use Rattle.opc_board.specs.declared.fault.BoardFault.TheVariants.{NoUnit, NoDevice}
use Rattle.opc_board.specs.Devices.{allocate_faults, attach_faults, free_faults, new_device, with_device}
use Rattle.opc_board.specs.Effect.{event_effect}
use Rattle.opc_board.specs.Invariants.{device_at, device_before, unit_at, unit_before, reply_before}
use Rattle.opc_board.specs.Outcome.{BoardOutcome, ◌>>=◌, done, faults_or, found}
use Rattle.opc_board.specs.Replies.{ask_faults}
use Rattle.opc_board.specs.Units.{come_faults, new_unit, without_unit}
use Rattle.opc_rows.specs.Ordered.{put}
use Rattle.opc_machine.specs.declared.request.Answer.TheVariants.{Refused}
use Rattle.opc_machine.specs.Faults.{board_fault}
use Rattle.opc_machine.specs.Machine.{IsAborted}
use Rattle.opc_machine_laws.specs.Laws.{IsOfAuthority}

abbrev pub IsPlain : Fault → Type 0
IsPlain fault.LogonRequired = ⊥
IsPlain fault.Revoked = ⊥
IsPlain fault.DeniedConsole = ⊥
IsPlain fault.DeniedProfile = ⊥
IsPlain fault.DeniedGroup = ⊥
IsPlain fault.NoMemory = ⊥
IsPlain fault.Store = ⊥
IsPlain other = Unit {0}

pub none_of_authority : (f : Fault) → IsPlain f → IsOfAuthority f → ⊥
none_of_authority fault.LogonRequired plain authority = plain
none_of_authority fault.Revoked plain authority = plain
none_of_authority fault.DeniedConsole plain authority = plain
none_of_authority fault.DeniedProfile plain authority = plain
none_of_authority fault.DeniedGroup plain authority = plain
none_of_authority other plain authority = authority

pub not_aborted : (f : Fault) → IsPlain f → IsAborted (Refused f None) → ⊥
not_aborted f plain (inl h) = let at : f ≡ fault.NoMemory = search (rules, h) in subst IsPlain at plain
not_aborted f plain (inr h) = let at : f ≡ fault.Store = search (rules, h) in subst IsPlain at plain

-- the faults of events

abbrev pub IsPlainIfFault : BoardOutcome → Type 0
IsPlainIfFault (Ok d) = Unit {0}
IsPlainIfFault (Err f) = IsPlain (board_fault f)

faults_plain : (faults : List (Bool × BoardFault)) (o : BoardOutcome)
    → AllByRecursion (λ (x : Bool × BoardFault). IsPlain (board_fault x.1)) faults → IsPlainIfFault o
    → IsPlainIfFault (faults_or faults o)
faults_plain [] o all plain = plain
faults_plain (x ∷ faults) o all plain = go x.0 (faults_plain faults o all.1 plain)
  where
    go : (there : Bool) → IsPlainIfFault (faults_or faults o) → IsPlainIfFault (if there then Err x.1 else faults_or faults o)
    go true later = all.0
    go false later = later

found_plain : {A : Type 0} (f : BoardFault) (o : Option A) (next : A → BoardOutcome) → IsPlain (board_fault f)
    → ((x : A) → IsPlainIfFault (next x)) → IsPlainIfFault (found f o >>= next)
found_plain f (Some x) next plain h = h x
found_plain f None next plain h = plain

pub event_plain : (b : BoardRows) (e : Event) → IsPlainIfFault (event_effect b e)
event_plain b (event.JobIn name kind cancelable) =
    faults_plain (come_faults name b) (done
    (record b { units = put unit_before (new_unit name kind cancelable) b.units })) (tt, (tt, tt)) tt
event_plain b (event.JobEnd name) = found_plain NoUnit (unit_at b name) (λ unit. done (without_unit name b)) tt (λ unit. tt)
event_plain b (event.Ask id text) = faults_plain (ask_faults id b) (done (record b {
  replies = put reply_before (record {
    id = id;
    text = text;
  }) b.replies;
})) (tt, tt) tt
event_plain b (event.Attach device) = faults_plain (attach_faults device b)
    (done (record b { devices = put device_before (new_device device) b.devices })) (tt, tt) tt
event_plain b (event.Allocate device unit) =
    found_plain NoDevice (device_at b device)
    (λ d. found NoUnit (unit_at b unit) >>= λ u. faults_or (allocate_faults d)
    (done (with_device (record d { unit = Some unit }) b))) tt
    (λ d. found_plain NoUnit (unit_at b unit) (λ u. faults_or (allocate_faults d) (done (with_device (record d { unit = Some unit }) b))) tt
    (λ u. faults_plain (allocate_faults d) (done (with_device (record d { unit = Some unit }) b)) (tt, (tt, tt)) tt))
event_plain b (event.Free device) =
    found_plain NoDevice (device_at b device) (λ d. faults_or (free_faults d) (done (with_device (record d { unit = None }) b))) tt
    (λ d. faults_plain (free_faults d) (done (with_device (record d { unit = None }) b)) (tt, tt) tt)
event_plain b event.Resume = tt
