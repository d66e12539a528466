-- Lines that are answered one after another.
use Rattle.std.specs.Prelude.{◌≡◌, ◌+◌, ◌++◌, ◌∷◌, ℕ, List, [], Option, MatchOption, length}
use Rattle.std.specs.Io.KnownBytes.{Appends}
use Rattle.std.specs.Option.{option_to_list}
use Rattle.opc_cli_script.specs.Running.{AppendsPrefix}
use Rattle.opc_state.specs.Meaning.{Meaning}
use Rattle.opc_state.specs.State.{State}
use Rattle.opc_machine.specs.Inputs.{input_of}
use Rattle.opc_machine.specs.declared.request.Answer.{Answer}
use Rattle.opc_machine.specs.declared.request.Request.{Request}
use Rattle.opc_gate.specs.Handling.{IsHandled, IsRun}
use Rattle.opc_cli_failures.specs.declared.status.Status.{Status}
use Rattle.opc_cli_script.specs.Transcripts.{answer_text, bad_line_text}
use Rattle.opc_cli_script.specs.Faults.{IsFaultOf}
use Rattle.opc_cli_script.specs.Turns.{IsTurnOf, answers_of, requests_of, status_of_turns, turn_text, turns_text}
use Rattle.opc_cli_script.specs.declared.fault.NowFault.{NowFault}
use Rattle.opc_cli_script.specs.declared.reading_now.Typed.{Typed}
use Rattle.opc_cli_script.specs.declared.reading_now.Typed.TheVariants.{End}
use Rattle.opc_cli_script.specs.declared.turn.Turn.{Turn}
use Rattle.opc_cli_script.specs.declared.turn.Turn.TheVariants.{Blank, Bad, Answered}

module _ {T : Type 0} (m : Meaning T) where
  -- What a turn makes of the tables: a request is handled, and nothing else changes them. `handled` is what is more
  -- known of a request that was handled.
  abbrev pub IsStep : (handled : T → ℕ → Request → Answer → T → Type 0) → (old new : T) → Turn → Type 0
  IsStep handled old new Blank = new ≡ old
  IsStep handled old new Bad = new ≡ old
  IsStep handled old new (Answered moment request answer) =
      (m.is_sure new → m.is_sure old)
      × (m.is_sure new → (s : State) → m.represents old s → IsHandled m old new s moment (input_of request) answer)
      × handled old moment request answer new

  -- If the tables are sure, the answers are those of a run of the machine over the requests.
  abbrev pub IsRunOf : (old new : T) → List Turn → Type 0
  IsRunOf old new turns =
      m.is_sure new → (s : State) → m.represents old s → IsRun m old new s (requests_of turns) (answers_of turns)

module _ {D : Type 0} (reads : D → Typed → D → Type 0) (dates : D → ℕ → D → Type 0) (says : D → List ℕ → D → Type 0)
  where
    -- What is done once a line is read: nothing, or its number is printed and flushed as that of a bad line, or the
    -- clock shows a time, and then the answer is printed and flushed.
    abbrev pub IsShown : (number : ℕ) → Turn → (met last : D) → Type 0
    IsShown number Blank met last = last ≡ met
    IsShown number Bad met last = says met (bad_line_text number) last
    IsShown number (Answered moment request answer) met last =
        (dated : D) × dates met moment dated × says dated (answer_text moment answer) last

    module _ (console : Option (List ℕ)) where
      -- A line was read, and then its outcome was shown.
      pub record IsTurn (number : ℕ) (turn : Turn) (met last : D) : Type 0 where
        pub typed : Typed
        pub read_to : D
        pub read : reads met typed read_to
        pub is : IsTurnOf console typed turn
        pub shown : IsShown number turn read_to last

      -- Each line was read after the outcome of the line before it was shown.
      abbrev pub AreTurns : (number : ℕ) → (first : D) → List Turn → (last : D) → Type 0
      AreTurns number first [] last = last ≡ first
      AreTurns number first (turn ∷ turns) last =
          (next : D) × IsTurn number turn first next × AreTurns (number + 1) next turns last

    module _ (held : D → Option (List ℕ)) {T : Type 0} (m : Meaning T)
        (handled : T → ℕ → Request → Answer → T → Type 0) where
      -- A turn of this kind was made and shown.
      pub record IsShownTurn (is : Turn → Type 0) (number : ℕ) (old new : T) (met last : D) (turn : Turn) : Type 0 where
        pub kind : is turn
        pub shown : IsShown number turn met last
        pub text : Appends (held met) (held last) (turn_text number turn)
        pub step : IsStep m handled old new turn

      -- A line was not handled, or a turn of this kind was made that was not shown as a whole.
      pub record IsCutTurn (is : Turn → Type 0) (number : ℕ) (old new : T) (met last : D) (fault : NowFault) : Type 0
        where
          pub turn : Option Turn
          pub fits : IsFaultOf fault turn
          pub made : MatchOption turn (new ≡ old) (λ t. is t × IsStep m handled old new t)
          pub text : MatchOption turn (held last ≡ held met)
              (λ t. AppendsPrefix (held met) (held last) (turn_text number t))

      module _ (console : Option (List ℕ)) where
        -- What was read is this.
        pub record IsReadAs (met : D) (turn : Turn) : Type 0 where
          pub typed : Typed
          pub read_to : D
          pub read : reads met typed read_to
          pub is : IsTurnOf console typed turn

        -- A line was answered.
        pub record IsTakenTurn (number : ℕ) (old new : T) (met last : D) (turn : Turn) : Type 0 where
          pub one : IsTurn console number turn met last
          pub text : Appends (held met) (held last) (turn_text number turn)
          pub step : IsStep m handled old new turn

        -- The input had ended.
        pub record IsOver (old new : T) (met last : D) : Type 0 where
          pub ends : reads met End last
          pub silent : held last ≡ held met
          pub same : new ≡ old

        -- Lines were answered, from the first on: what was printed is their outcomes, in order, and their answers are
        -- those of the gate.
        pub record AreTaken (old new : T) (first last : D) (turns : List Turn) : Type 0 where
          pub are : AreTurns console 1 first turns last
          pub text : Appends (held first) (held last) (turns_text 1 turns)
          pub run : IsRunOf m old new turns

        -- `told` is what is more known of the requests that were handled, and of their answers.
        module _ (told : (old new : T) → List (ℕ × Request) → List Answer → Type 0) where
          -- Every line was answered, until the input had ended.
          pub record IsSession (old new : T) (first last : D) (status : Status) : Type 0 where
            pub turns : List Turn
            pub ended : D
            pub taken : AreTaken old new first ended turns
            pub ends : reads ended End last
            pub silent : held last ≡ held ended
            pub status_is : status ≡ status_of_turns turns
            pub tells : told old new (requests_of turns) (answers_of turns)

          -- Lines were answered, and then something failed: the next could not be read or timestamped, or its outcome
          -- was not shown as a whole. No request of a further line is handled, and nothing is printed of one.
          pub record IsCutSession (old new : T) (first last : D) (fault : NowFault) : Type 0 where
            pub turns : List Turn
            pub mid : T
            pub met : D
            pub taken : AreTaken old mid first met turns
            pub cut : IsCutTurn (IsReadAs met) (length turns + 1) mid new met last fault
            pub run : IsRunOf m old new (turns ++ option_to_list cut.turn)
            pub tells : told old new (requests_of (turns ++ option_to_list cut.turn))
                (answers_of (turns ++ option_to_list cut.turn))
