-- Lines that are answered, as they are known of what their terminal shows.
use Rattle.std.proofs.Common.{◌≡◌, ◌+◌, ◌∷◌, ℕ, List, [], Option, Some, None, MatchOption, ap, length}
use Rattle.opc_state.specs.Meaning.{Meaning}
use Rattle.opc_machine.specs.declared.request.Answer.{Answer}
use Rattle.opc_machine.specs.declared.request.Request.{Request}
use Rattle.opc_cli_failures.specs.declared.status.Status.{Status}
use Rattle.opc_cli_script.specs.Sessions.{AreTaken, AreTurns, IsCutSession, IsCutTurn, IsReadAs, IsSession, IsShown, IsStep, IsTurn}
use Rattle.opc_cli_script.specs.declared.fault.NowFault.{NowFault}
use Rattle.opc_cli_script.specs.declared.reading_now.Typed.{Typed}
use Rattle.opc_cli_script.specs.declared.turn.Turn.{Turn}
use Rattle.opc_cli_script.specs.declared.turn.Turn.TheVariants.{Blank, Bad, Answered}

-- `view` is what is known of a terminal
module _ {D E : Type 0} (view : D → E) (reads : E → Typed → E → Type 0) (dates : E → ℕ → E → Type 0)
    (says : E → List ℕ → E → Type 0) (held : E → Option (List ℕ)) where
  abbrev pub reads_there : D → Typed → D → Type 0
  reads_there met typed last = reads (view met) typed (view last)

  abbrev pub dates_there : D → ℕ → D → Type 0
  dates_there met moment last = dates (view met) moment (view last)

  abbrev pub says_there : D → List ℕ → D → Type 0
  says_there met text last = says (view met) text (view last)

  abbrev pub held_there : D → Option (List ℕ)
  held_there d = held (view d)

  shown : (number : ℕ) (turn : Turn) (met last : D) → IsShown reads_there dates_there says_there number turn met last
      → IsShown reads dates says number turn (view met) (view last)
  shown number Blank met last same = ap view same
  shown number Bad met last said = said
  shown number (Answered moment request answer) met last said = (view said.0, said.1, said.2)

  module _ (console : Option (List ℕ)) where
    one : (number : ℕ) (turn : Turn) (met last : D) → IsTurn reads_there dates_there says_there console number turn met last
        → IsTurn reads dates says console number turn (view met) (view last)
    one number turn met last is = record {
      typed = is.typed;
      read_to = view is.read_to;
      read = is.read;
      is = is.is;
      shown = shown number turn is.read_to last is.shown;
    }

    turns_are : (number : ℕ) (turns : List Turn) (first last : D)
        → AreTurns reads_there dates_there says_there console number first turns last
        → AreTurns reads dates says console number (view first) turns (view last)
    turns_are number [] first last same = ap view same
    turns_are number (turn ∷ turns) first last are =
        (view are.0, one number turn first are.0 are.1, turns_are (number + 1) turns are.0 last are.2)

    module _ {T : Type 0} (m : Meaning T) (handled : T → ℕ → Request → Answer → T → Type 0) where
      taken : (old new : T) (first last : D) (turns : List Turn)
          → AreTaken reads_there dates_there says_there held_there m handled console old new first last turns
          → AreTaken reads dates says held m handled console old new (view first) (view last) turns
      taken old new first last turns t = record { are = turns_are 1 turns first last t.are; text = t.text; run = t.run }

      pub session_viewed : (told : (old new : T) → List (ℕ × Request) → List Answer → Type 0) (old new : T) (first last : D) (status : Status)
          → IsSession reads_there dates_there says_there held_there m handled console told old new first last status
          → IsSession reads dates says held m handled console told old new (view first) (view last) status
      session_viewed told old new first last status s = record {
        turns = s.turns;
        ended = view s.ended;
        taken = taken old new first s.ended s.turns s.taken;
        ends = s.ends;
        silent = s.silent;
        status_is = s.status_is;
        tells = s.tells;
      }

      read_as : (met : D) (turn : Turn) → IsReadAs reads_there dates_there says_there held_there m handled console met turn
          → IsReadAs reads dates says held m handled console (view met) turn
      read_as met turn r = record { typed = r.typed; read_to = view r.read_to; read = r.read; is = r.is }

      cut_turn : (number : ℕ) (old new : T) (met last : D) (fault : NowFault)
          → IsCutTurn reads_there dates_there says_there held_there m handled
          (IsReadAs reads_there dates_there says_there held_there m handled console met) number old new met last fault
          → IsCutTurn reads dates says held m handled (IsReadAs reads dates says held m handled console (view met)) number old new (view met) (view last) fault
      cut_turn number old new met last fault c =
          record { turn = c.turn; fits = c.fits; made = go c.turn c.made; text = c.text }
        where
          go : (turn : Option Turn)
              → MatchOption turn (new ≡ old) (λ t. IsReadAs reads_there dates_there says_there held_there m handled console met t × IsStep m handled old new t)
              → MatchOption turn (new ≡ old) (λ t. IsReadAs reads dates says held m handled console (view met) t × IsStep m handled old new t)
          go None same = same
          go (Some t) made = (read_as met t made.0, made.1)

      pub cut_viewed : (told : (old new : T) → List (ℕ × Request) → List Answer → Type 0) (old new : T) (first last : D) (fault : NowFault)
          → IsCutSession reads_there dates_there says_there held_there m handled console told old new first last fault
          → IsCutSession reads dates says held m handled console told old new (view first) (view last) fault
      unfolding cut_turn
      cut_viewed told old new first last fault c = record {
        turns = c.turns;
        mid = c.mid;
        met = view c.met;
        taken = taken old c.mid first c.met c.turns c.taken;
        cut = cut_turn (length c.turns + 1) c.mid new c.met last fault c.cut;
        run = c.run;
        tells = c.tells;
      }
