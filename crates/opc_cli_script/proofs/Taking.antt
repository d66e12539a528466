-- Lines are answered one after another.
use Rattle.std.proofs.Common.{◌≡◌, ◌+◌, ◌∙◌, ◌++◌, ◌∷◌, ℕ, suc, List, [], Option, Some, None, MatchOption, length, refl, sym, ap, subst, arith}
use Rattle.std.specs.Io.KnownBytes.{Appends}
use Rattle.std.specs.Option.{option_to_list}
use Rattle.std.proofs.lemmas.List.{append-nil, append_assoc, length-append}
use Rattle.opc_state.specs.Meaning.{Meaning}
use Rattle.opc_machine.specs.declared.request.Answer.{Answer}
use Rattle.opc_machine.specs.declared.request.Request.{Request}
use Rattle.opc_cli_failures.specs.declared.status.Status.{Status}
use Rattle.opc_cli_script.proofs.Written.{appends_more, appends_none}
use Rattle.opc_cli_script.specs.Handlers.{AreSteps}
use Rattle.opc_cli_script.specs.Statuses.{status_of}
use Rattle.opc_cli_script.specs.Sessions.{AreTaken, AreTurns, IsCutSession, IsCutTurn, IsOver, IsReadAs, IsRunOf, IsSession, IsStep, IsTakenTurn, IsTurn}
use Rattle.opc_cli_script.specs.Turns.{IsStandingOf, answers_of, requests_of, status_with, turn_text, turns_text}
use Rattle.opc_cli_script.specs.declared.fault.NowFault.{NowFault}
use Rattle.opc_cli_script.specs.declared.reading_now.Typed.{Typed}
use Rattle.opc_cli_script.specs.declared.session.Standing.{Standing}
use Rattle.opc_cli_script.specs.declared.turn.Turn.{Turn}
use Rattle.opc_cli_script.proofs.Running.{run_begins, run_with}
use Rattle.opc_cli_script.proofs.Steps.{steps_with}

text_more : (number : ℕ) (turns : List Turn) (turn : Turn)
    → turns_text number (turns ++ turn ∷ []) ≡ turns_text number turns ++ turn_text (length turns + number) turn
text_more number [] turn = append-nil (turn_text number turn) ∙ ap (λ n. turn_text n turn) (let e : number ≡ 0 + number = omega arith in e)
text_more number (t ∷ turns) turn =
    ap (λ x. turn_text number t ++ x) (text_more (number + 1) turns turn)
    ∙ ap (λ n. turn_text number t ++ (turns_text (number + 1) turns ++ turn_text n turn))
    (let e : length turns + (number + 1) ≡ suc (length turns) + number = omega arith in e)
    ∙ sym (append_assoc (turn_text number t) (turns_text (number + 1) turns) (turn_text (suc (length turns) + number) turn))

module _ {D : Type 0} (reads : D → Typed → D → Type 0) (dates : D → ℕ → D → Type 0) (says : D → List ℕ → D → Type 0)
    (held : D → Option (List ℕ)) {T : Type 0} (m : Meaning T) (handled : T → ℕ → Request → Answer → T → Type 0) (console : Option (List ℕ)) where
  turns_more : (number : ℕ) (turns : List Turn) (turn : Turn) (first met last : D)
      → AreTurns reads dates says console number first turns met
      → IsTurn reads dates says console (length turns + number) turn met last
      → AreTurns reads dates says console number first (turns ++ turn ∷ []) last
  turns_more number [] turn first met last are one =
      let e : 0 + number ≡ number = omega arith in (
        last,
        subst (λ n. IsTurn reads dates says console n turn first last) e
            (subst (λ d. IsTurn reads dates says console (0 + number) turn d last) are one),
        refl,
      )
  turns_more number (t ∷ turns) turn first met last are one =
      let e : suc (length turns) + number ≡ length turns + (number + 1) = omega arith in (
        are.0,
        are.1,
        turns_more (number + 1) turns turn are.0 met last are.2
            (subst (λ n. IsTurn reads dates says console n turn met last) e one),
      )

  -- no line is answered yet
  pub taken_none : (now : T) (first : D) → AreTaken reads dates says held m handled console now now first first []
  taken_none now first = record { are = refl; text = appends_none (held first); run = run_begins m now }

  -- one more is
  pub taken_more : (old mid new : T) (first met last : D) (turns : List Turn) (turn : Turn)
      → AreTaken reads dates says held m handled console old mid first met turns
      → IsTakenTurn reads dates says held m handled console (length turns + 1) mid new met last turn
      → AreTaken reads dates says held m handled console old new first last (turns ++ turn ∷ [])
  taken_more old mid new first met last turns turn taken one = record {
    are = turns_more 1 turns turn first met last taken.are one.one;
    text = subst (Appends (held first) (held last)) (sym (text_more 1 turns turn))
        (appends_more (held first) (held met) (held last) (turns_text 1 turns) (turn_text (length turns + 1) turn) taken.text one.text);
    run = run_with m handled old mid new turns turn taken.run one.step;
  }

  -- Lines that were answered, as the loop knows them.
  pub record IsSoFar (old new : T) (first last : D) (number : ℕ) (standing : Standing) : Type 0 where
    pub turns : List Turn
    pub count : length turns + 1 ≡ number
    pub taken : AreTaken reads dates says held m handled console old new first last turns
    pub stands : IsStandingOf turns standing
    pub steps : AreSteps handled old new (requests_of turns) (answers_of turns)

  pub none_so_far : (now : T) (first : D) (standing : Standing) → IsStandingOf [] standing → IsSoFar now now first first 1 standing
  none_so_far now first standing stands = record { turns = []; count = refl; taken = taken_none now first; stands = stands; steps = refl }

  pub more_so_far : (old mid new : T) (first met last : D) (number : ℕ) (standing next : Standing) (turn : Turn)
      → IsSoFar old mid first met number standing
      → IsTakenTurn reads dates says held m handled console number mid new met last turn
      → ((turns : List Turn) → IsStandingOf turns standing → IsStandingOf (turns ++ turn ∷ []) next)
      → IsSoFar old new first last (number + 1) next
  more_so_far old mid new first met last number standing next turn so_far one stands = record {
    turns = so_far.turns ++ turn ∷ [];
    count = (let long = length-append so_far.turns (turn ∷ []) in omega (arith, long, so_far.count));
    taken = taken_more old mid new first met last so_far.turns turn so_far.taken
        (subst (λ n. IsTakenTurn reads dates says held m handled console n mid new met last turn) (sym so_far.count) one);
    stands = stands so_far.turns so_far.stands;
    steps = steps_with handled m old mid new so_far.turns turn so_far.steps one.step;
  }

  -- The input has ended.
  pub session : (old mid new : T) (first met last : D) (number : ℕ) (standing : Standing) (status : Status)
      → IsSoFar old mid first met number standing → IsOver reads dates says held m handled console mid new met last
      → status ≡ status_with standing.answered standing.is_bad
      → IsSession reads dates says held m handled console (AreSteps handled) old new first last status
  session old mid new first met last number standing status so_far over is = record {
    turns = so_far.turns;
    ended = met;
    taken = subst (λ t. AreTaken reads dates says held m handled console old t first met so_far.turns) (sym over.same) so_far.taken;
    ends = over.ends;
    silent = over.silent;
    status_is = is ∙ ap (λ s. status_with s standing.is_bad) so_far.stands.0
        ∙ ap (λ b. status_with (status_of (answers_of so_far.turns)) b) so_far.stands.1;
    tells = subst (λ t. AreSteps handled old t (requests_of so_far.turns) (answers_of so_far.turns)) (sym over.same) so_far.steps;
  }

  -- Something failed.
  pub cut_session : (old mid new : T) (first met last : D) (number : ℕ) (standing : Standing) (fault : NowFault)
      → IsSoFar old mid first met number standing
      → IsCutTurn reads dates says held m handled (IsReadAs reads dates says held m handled console met) number mid new met last fault
      → IsCutSession reads dates says held m handled console (AreSteps handled) old new first last fault
  cut_session old mid new first met last number standing fault so_far cut =
      let here =
      subst (λ n. IsCutTurn reads dates says held m handled (IsReadAs reads dates says held m handled console met) n mid new met last fault)
      (sym so_far.count) cut in
      record {
        turns = so_far.turns;
        mid = mid;
        met = met;
        taken = so_far.taken;
        cut = here;
        run = go here.turn here.made;
        tells = steps here.turn here.made;
      }
    where
      go : (turn : Option Turn)
          → MatchOption turn (new ≡ mid) (λ t. IsReadAs reads dates says held m handled console met t × IsStep m handled mid new t)
          → IsRunOf m old new (so_far.turns ++ option_to_list turn)
      go None same = subst (λ turns. IsRunOf m old new turns) (sym (append-nil so_far.turns))
          (subst (λ t. IsRunOf m old t so_far.turns) (sym same) so_far.taken.run)
      go (Some turn) made = run_with m handled old mid new so_far.turns turn so_far.taken.run made.1

      steps : (turn : Option Turn)
          → MatchOption turn (new ≡ mid) (λ t. IsReadAs reads dates says held m handled console met t × IsStep m handled mid new t)
          → AreSteps handled old new (requests_of (so_far.turns ++ option_to_list turn)) (answers_of (so_far.turns ++ option_to_list turn))
      steps None same = subst (λ turns. AreSteps handled old new (requests_of turns) (answers_of turns)) (sym (append-nil so_far.turns))
          (subst (λ t. AreSteps handled old t (requests_of so_far.turns) (answers_of so_far.turns)) (sym same) so_far.steps)
      steps (Some turn) made = steps_with handled m old mid new so_far.turns turn so_far.steps made.1
