-- What the program does with lines that are answered as they are read.
use Rattle.std.specs.Prelude.{
  ◌≡◌,
  ◌≤◌,
  ℕ,
  Bool,
  true,
  List,
  Option,
  Result,
  Ok,
  Err,
  IsErrAnd,
  MatchResult,
  if◌then◌else◌,
}
use Rattle.std.specs.Borrow.{Bor}
use Rattle.std.specs.Io.KnownBytes.{Appends}
use Rattle.opc_terms.specs.declared.fault.Fault.TheVariants as fault
use Rattle.opc_state.specs.Meaning.{Meaning}
use Rattle.opc_machine.specs.declared.request.Answer.{Answer}
use Rattle.opc_machine.specs.declared.request.Request.{Request}
use Rattle.opc_cli_failures.specs.declared.failure.Failure.{Failure}
use Rattle.opc_cli_failures.specs.declared.failure.Place.TheVariants as place
use Rattle.opc_cli_failures.specs.declared.status.Status.{Status}
use Rattle.opc_cli_failures.specs.Statuses.{IsErrorAt}
use Rattle.opc_http_serve.specs.declared.clock.TheConstants.{LAST_MOMENT}
use Rattle.opc_cli_script.specs.declared.fault.NowFault.{NowFault}
use Rattle.opc_cli_script.specs.declared.fault.NowFault.TheVariants.{Input, Clock, Output, NoMemory}
use Rattle.opc_cli_script.specs.declared.reading_now.Typed.{Typed}
use Rattle.opc_cli_script.specs.Faults.{is_cut_by_output}
use Rattle.opc_cli_script.specs.Handlers.{nothing_more}
use Rattle.opc_cli_script.specs.ReadingNow.{IsTyped}
use Rattle.opc_cli_script.specs.Sessions.{IsCutSession, IsSession}
use Rattle.opc_cli_log.specs.declared.log.RunLog.{RunLog}
use Rattle.opc_cli_program.specs.Logging.{IsLogAt, IsRunWithLog}
use Rattle.opc_cli_program.specs.Runs.{IsNamedPolicyTaken}

-- what is known of an input, by the bytes that it has left, and of an output, by those that it holds
abbrev pub Streams : Type 0
Streams = Option (List ℕ) × Option (List ℕ)

-- This was read from the input, and nothing was written.
abbrev pub IsLineRead : (old : Streams) → Typed → (new : Streams) → Type 0
IsLineRead old typed new = IsTyped old.0 new.0 typed × (new.1 ≡ old.1)

-- The clock showed this timestamp, which is valid.
abbrev pub IsMomentBy : (shows : ℕ → Type 0) → ℕ → Type 0
IsMomentBy shows moment = shows moment × (moment ≤ LAST_MOMENT)

-- The clock showed a time, and nothing was read or written. `shows` states which times it showed.
abbrev pub IsDated : (shows : ℕ → Type 0) → (old : Streams) → ℕ → (new : Streams) → Type 0
IsDated shows old moment new = IsMomentBy shows moment × (new ≡ old)

-- A text was written, and nothing was read.
abbrev pub IsSaid : (old : Streams) → List ℕ → (new : Streams) → Type 0
IsSaid old text new = Appends old.1 new.1 text × (new.0 ≡ old.0)

abbrev pub output_of : Streams → Option (List ℕ)
output_of streams = streams.1

-- How the program ends if answering the lines had this outcome.
abbrev pub IsEndOfLines : Result Status NowFault → Result Status Failure → Type 0
IsEndOfLines (Ok status) end = end ≡ Ok status
IsEndOfLines (Err (Input error)) end = IsErrAnd end (IsErrorAt place.Input error)
IsEndOfLines (Err (Clock error)) end = IsErrAnd end (IsErrorAt place.Clock error)
IsEndOfLines (Err (Output error)) end = IsErrAnd end (IsErrorAt place.Output error)
IsEndOfLines (Err NoMemory) end = IsErrAnd end (λ failure. failure.fault ≡ fault.NoMemory)

module _ {T : Type 0} (m : Meaning T) (handled : T → ℕ → Request → Answer → T → Type 0) {K : Type 0}
    (held : K → Option (List ℕ)) (has_failed : K → Bool) (shows : ℕ → Type 0) (console : Option (List ℕ)) where
  -- The lines of what an input had left were answered, one after another: all of them, or up to what failed. It was the
  -- output if and only if a write failed. `handled` is what is more known of each request, `told` of all and of their
  -- answers.
  pub record AreLinesAnsweredBy (told : (old new : T) → List (ℕ × Request) → List Answer → Type 0) (old new : T)
      (left : Option (List ℕ)) (before written : K) (end : Result Status Failure) : Type 0 where
    pub rest : Option (List ℕ)
    pub ran : Result Status NowFault
    pub run : MatchResult ran
        (IsSession IsLineRead (IsDated shows) IsSaid output_of m handled console told old new (left, held before)
        (rest, held written))
        (IsCutSession IsLineRead (IsDated shows) IsSaid output_of m handled console told old new (left, held before)
        (rest, held written))
    pub failed : has_failed written ≡ (if is_cut_by_output ran then true else has_failed before)
    pub ends : IsEndOfLines ran end

module _ {T : Type 0} (m : Meaning T) {K : Type 0} (held : K → Option (List ℕ)) (has_failed : K → Bool)
    (shows : ℕ → Type 0) (console : Option (List ℕ)) where
  -- They were, by a gate.
  abbrev pub AreLinesAnswered : (told : (old new : T) → List (ℕ × Request) → List Answer → Type 0) → (old new : T)
      → (left : Option (List ℕ)) → (before written : K) → (end : Result Status Failure) → Type 0
  AreLinesAnswered told old new left before written end =
      AreLinesAnsweredBy m nothing_more held has_failed shows console told old new left before written end

  module _ {W : Type 0} (opens : List ℕ → W → Type 0) (contents : W → Option (List ℕ)) where
    -- The first policy was taken, if one is named, and then the lines were answered over the tables that it left. If
    -- the policy was not taken, that is the end, and nothing is printed.
    pub record AreLinesAfterPolicy (holds : List ℕ → Option (List ℕ)) (old new : T) (policy : Option (Bor (List ℕ)))
        (log : Option (RunLog W)) (left : Option (List ℕ)) (before written : K) (end : Result Status Failure)
        : Type 0 where
      pub mid : T
      pub taken : Result Status Failure
      pub takes : IsNamedPolicyTaken m holds old mid policy taken
      pub sure : m.is_sure new → m.is_sure mid
      pub answers : MatchResult taken (λ _. IsRunWithLog m contents log
          (λ told ran. AreLinesAnswered told mid new left before written ran) end)
          (λ failure. (end ≡ Err failure) × (new ≡ mid) × (written ≡ before))

    -- Before that the log was opened, if one is named. If it was not, that is the end, and nothing is done or printed.
    pub record AreProgramLines (holds : List ℕ → Option (List ℕ)) (old new : T) (policy path : Option (Bor (List ℕ)))
        (left : Option (List ℕ)) (before written : K) (end : Result Status Failure) : Type 0 where
      pub log : Result (Option (RunLog W)) Failure
      pub opened : IsLogAt opens path log
      pub answers : MatchResult log (λ log. AreLinesAfterPolicy holds old new policy log left before written end)
          (λ failure. (end ≡ Err failure) × (new ≡ old) × (written ≡ before))
