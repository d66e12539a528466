-- A script's run over tables.
use Rattle.std.specs.Prelude.{◌≡◌, ◌⊎◌, ℕ, List, [], ◌∷◌, ◌++◌, Option, Result, Ok, Err, MatchOption, length, take}
use Rattle.std.specs.Io.KnownBytes.{Appends}
use Rattle.opc_state.specs.Meaning.{Meaning}
use Rattle.opc_state.specs.State.{State}
use Rattle.opc_machine.specs.declared.request.Request.{Request}
use Rattle.opc_machine.specs.declared.request.Answer.{Answer}
use Rattle.opc_gate.specs.Handling.{IsRun}
use Rattle.opc_cli_failures.specs.declared.status.Status.{Status}
use Rattle.opc_cli_script.specs.declared.script.ScriptFault.{ScriptFault}
use Rattle.opc_cli_script.specs.declared.script.ScriptFault.TheVariants.{BadLine, NoMemory, Output}
use Rattle.opc_cli_script.specs.Scripts.{bad_line, requests_in}
use Rattle.opc_cli_script.specs.Statuses.{status_of}
use Rattle.opc_cli_script.specs.Transcripts.{answer_text, transcript, bad_line_text}

-- Some prefix of a text was written.
pub record AppendsPrefix (old new : Option (List ℕ)) (text : List ℕ) : Type 0 where
  pub len : ℕ
  pub prefix : Appends old new (take len text)

-- A text was not written as a whole: its allocation failed, and nothing was written, or the output took only a prefix.
abbrev pub IsCutOff : ScriptFault → Option (List ℕ) → Option (List ℕ) → List ℕ → Type 0
IsCutOff NoMemory before written text = written ≡ before
IsCutOff (Output error) before written text = AppendsPrefix before written text
IsCutOff (BadLine number) before written text = ⊥

-- In these, `told` is what is more known of the requests that were handled, and of their answers.
module _ {T : Type 0} (m : Meaning T) (told : (old new : T) → List (ℕ × Request) → List Answer → Type 0) where
  -- All requests were handled, and what was written is the transcript of their answers.
  pub record IsWhole (old new : T) (requests : List (ℕ × Request)) (before written : Option (List ℕ))
      (status : Status) : Type 0 where
    pub answers : List Answer
    pub each : length answers ≡ length requests
    pub run : m.is_sure new → (s : State) → m.represents old s → IsRun m old new s requests answers
    pub tells : told old new requests answers
    pub text : Appends before written (transcript requests answers)
    pub ends : status ≡ status_of answers

  -- The run ended at the first request whose answer was not written as a whole. That request is the last one that is
  -- handled.
  pub record IsCut (old new : T) (requests : List (ℕ × Request)) (before written : Option (List ℕ))
      (fault : ScriptFault) : Type 0 where
    pub reported : List (ℕ × Request)
    pub request : ℕ × Request
    pub later : List (ℕ × Request)
    pub are : requests ≡ reported ++ request ∷ later
    pub answers : List Answer
    pub each : length answers ≡ length reported
    pub answer : Answer
    pub run : m.is_sure new → (s : State) → m.represents old s
        → IsRun m old new s (reported ++ request ∷ []) (answers ++ answer ∷ [])
    pub tells : told old new (reported ++ request ∷ []) (answers ++ answer ∷ [])
    pub met : Option (List ℕ)
    pub text : Appends before met (transcript reported answers)
    pub cut_off : IsCutOff fault met written (answer_text request.0 answer)

  -- The allocation of the requests failed, and nothing was done.
  pub record IsNotBegun (old new : T) (before written : Option (List ℕ)) (fault : ScriptFault) : Type 0 where
    pub no_memory : fault ≡ NoMemory
    pub same : new ≡ old
    pub nothing : written ≡ before

  abbrev pub IsScriptRun : (old new : T) → List (ℕ × Request) → (before written : Option (List ℕ))
      → Result Status ScriptFault → Type 0
  IsScriptRun old new requests before written (Ok status) = IsWhole old new requests before written status
  IsScriptRun old new requests before written (Err fault) =
      IsNotBegun old new before written fault ⊎ IsCut old new requests before written fault

-- What is written states that the line is bad, or was cut off.
abbrev pub IsBadLinePrinted : ℕ → (before written : Option (List ℕ)) → ScriptFault → Type 0
IsBadLinePrinted number before written (BadLine found) =
    (found ≡ number) × Appends before written (bad_line_text number)
IsBadLinePrinted number before written NoMemory = IsCutOff NoMemory before written (bad_line_text number)
IsBadLinePrinted number before written (Output error) = IsCutOff (Output error) before written (bad_line_text number)

abbrev pub IsBadRun : ℕ → (before written : Option (List ℕ)) → Result Status ScriptFault → Type 0
IsBadRun number before written (Ok status) = ⊥
IsBadRun number before written (Err fault) = IsBadLinePrinted number before written fault

-- A script was run, or its bad line was reported and nothing was run.
abbrev pub IsAnswered : {T : Type 0} → Meaning T → (told : (old new : T) → List (ℕ × Request) → List Answer → Type 0)
    → (old new : T) → (script : List ℕ) → (before written : Option (List ℕ)) → Result Status ScriptFault → Type 0
IsAnswered m told old new script before written result =
    MatchOption (bad_line script) (IsScriptRun m told old new (requests_in script) before written
    result) (λ number. (new ≡ old) × IsBadRun number before written result)
