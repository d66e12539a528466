-- One line is answered.
use Rattle.std.proofs.Common.{◌≡◌, ◌∙◌, ℕ, true, false, List, [], Option, Some, None, MatchOption, refl, sym, subst, rules}
use Rattle.std.specs.Io.KnownBytes.{Appends}
use Rattle.opc_cli_script.specs.Running.{AppendsPrefix}
use Rattle.opc_state.specs.Meaning.{Meaning}
use Rattle.opc_machine.specs.declared.request.Answer.{Answer}
use Rattle.opc_machine.specs.declared.request.Request.{Request}
use Rattle.opc_cli_script.proofs.Written.{appends_none}
use Rattle.opc_cli_script.specs.Scripts.{is_blank}
use Rattle.opc_cli_script.specs.Faults.{IsFaultOf, is_clock, is_input, is_output}
use Rattle.opc_cli_script.specs.Sessions.{IsCutTurn, IsReadAs, IsShownTurn, IsStep, IsTakenTurn}
use Rattle.opc_cli_script.specs.Turns.{IsAnswerOf, IsTurnOf, IsTurnOfLine, request_on, turn_text}
use Rattle.opc_cli_script.specs.declared.fault.NowFault.{NowFault}
use Rattle.opc_cli_script.specs.declared.fault.NowFault.TheVariants as fault
use Rattle.opc_cli_script.specs.declared.reading_now.Typed.{Typed}
use Rattle.opc_cli_script.specs.declared.turn.Turn.{Turn}

pub of_input : (f : NowFault) → is_input f ≡ true → IsFaultOf f None
of_input (fault.Input error) h = refl
of_input (fault.Clock error) h = absurd (search (rules, h))
of_input (fault.Output error) h = absurd (search (rules, h))
of_input fault.NoMemory h = tt

pub of_clock : (f : NowFault) → is_clock f ≡ true → IsFaultOf f None
of_clock (fault.Input error) h = absurd (search (rules, h))
of_clock (fault.Clock error) h = refl
of_clock (fault.Output error) h = absurd (search (rules, h))
of_clock fault.NoMemory h = tt

pub of_output : (f : NowFault) (turn : Turn) → is_output f ≡ true → IsFaultOf f (Some turn)
of_output (fault.Input error) turn h = absurd (search (rules, h))
of_output (fault.Clock error) turn h = absurd (search (rules, h))
of_output (fault.Output error) turn h = refl
of_output fault.NoMemory turn h = absurd (search (rules, h))

-- a prefix of nothing
pub none_of : (a b : Option (List ℕ)) (text : List ℕ) → b ≡ a → AppendsPrefix a b text
none_of a b text same = record { len = 0; prefix = subst (λ c. Appends a c []) (sym same) (appends_none a) }

-- a request that was handled is that of its line
pub of_line : (console : Option (List ℕ)) (line : List ℕ) (request : Request) → is_blank line ≡ false
    → request_on console line ≡ Some request → (turn : Turn) → IsAnswerOf request turn → IsTurnOfLine console line turn
of_line console line request other asks turn is =
    subst (IsTurnOfLine console line) (sym is.2) (other, asks)

module _ {D : Type 0} (reads : D → Typed → D → Type 0) (dates : D → ℕ → D → Type 0) (says : D → List ℕ → D → Type 0)
    (held : D → Option (List ℕ)) {T : Type 0} (m : Meaning T)
    (handled : T → ℕ → Request → Answer → T → Type 0) where
  -- the same turn, of another kind
  pub shown_as : (P Q : Turn → Type 0) → ((turn : Turn) → P turn → Q turn) → (number : ℕ) (old new : T) (met last : D) (turn : Turn)
      → IsShownTurn reads dates says held m handled P number old new met last turn
      → IsShownTurn reads dates says held m handled Q number old new met last turn
  shown_as P Q other number old new met last turn one =
      record { kind = other turn one.kind; shown = one.shown; text = one.text; step = one.step }

  pub cut_as : (P Q : Turn → Type 0) → ((turn : Turn) → P turn → Q turn) → (number : ℕ) (old new : T) (met last : D) (f : NowFault)
      → IsCutTurn reads dates says held m handled P number old new met last f
      → IsCutTurn reads dates says held m handled Q number old new met last f
  cut_as P Q other number old new met last f cut =
      record { turn = cut.turn; fits = cut.fits; made = go cut.turn cut.made; text = cut.text }
    where
      go : (turn : Option Turn) → MatchOption turn (new ≡ old) (λ t. P t × IsStep m handled old new t)
          → MatchOption turn (new ≡ old) (λ t. Q t × IsStep m handled old new t)
      go None same = same
      go (Some t) made = (other t made.0, made.1)

  -- a line was not handled
  pub none_made : (P : Turn → Type 0) (number : ℕ) (old new : T) (met last : D) (f : NowFault) → IsFaultOf f None → new ≡ old → held last ≡ held met
      → IsCutTurn reads dates says held m handled P number old new met last f
  none_made P number old new met last f fits same silent = record { turn = None; fits = fits; made = same; text = silent }

  -- a turn was made, and not shown as a whole
  pub cut_off : (P : Turn → Type 0) (number : ℕ) (old new : T) (met last : D) (f : NowFault) (turn : Turn) → IsFaultOf f (Some turn)
      → P turn → IsStep m handled old new turn → AppendsPrefix (held met) (held last) (turn_text number turn)
      → IsCutTurn reads dates says held m handled P number old new met last f
  cut_off P number old new met last f turn fits is step text = record { turn = Some turn; fits = fits; made = (is, step); text = text }

  module _ (console : Option (List ℕ)) (number : ℕ) (old new : T) (met read_to last : D) (typed : Typed)
      (read : reads met typed read_to) (silent : held read_to ≡ held met) where
    -- What was read was answered,
    pub taken : (turn : Turn) → IsShownTurn reads dates says held m handled (IsTurnOf console typed) number old new read_to last turn
        → IsTakenTurn reads dates says held m handled console number old new met last turn
    taken turn one = record {
      one = record { typed = typed; read_to = read_to; read = read; is = one.kind; shown = one.shown };
      text = subst (λ bytes. Appends bytes (held last) (turn_text number turn)) silent one.text;
      step = one.step;
    }

    -- or not.
    pub not_taken : (f : NowFault) → IsCutTurn reads dates says held m handled (IsTurnOf console typed) number old new read_to last f
        → IsCutTurn reads dates says held m handled (IsReadAs reads dates says held m handled console met) number old new met last f
    not_taken f cut = record { turn = cut.turn; fits = cut.fits; made = go cut.turn cut.made; text = told cut.turn cut.text }
      where
        go : (turn : Option Turn) → MatchOption turn (new ≡ old) (λ t. IsTurnOf console typed t × IsStep m handled old new t)
            → MatchOption turn (new ≡ old) (λ t. IsReadAs reads dates says held m handled console met t × IsStep m handled old new t)
        go None same = same
        go (Some t) made = (record { typed = typed; read_to = read_to; read = read; is = made.0 }, made.1)

        told : (turn : Option Turn) → MatchOption turn (held last ≡ held read_to) (λ t. AppendsPrefix (held read_to) (held last) (turn_text number t))
            → MatchOption turn (held last ≡ held met) (λ t. AppendsPrefix (held met) (held last) (turn_text number t))
        told None same = same ∙ silent
        told (Some t) part = subst (λ bytes. AppendsPrefix bytes (held last) (turn_text number t)) silent part
