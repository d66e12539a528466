-- Requests are handled one after another.
use Rattle.std.proofs.Common.{◌≡◌, ◌+◌, ◌<◌, ◌∙◌, ◌++◌, ◌∷◌, ℕ, List, [], length, take, drop, get_or, refl, subst, sym, ap}
use Rattle.std.proofs.lemmas.List.{append_assoc, append-nil, take-append-drop, take_more}
use Rattle.opc_state.specs.Meaning.{Meaning}
use Rattle.opc_machine.specs.declared.request.Answer.{Answer}
use Rattle.opc_machine.specs.declared.request.Request.{Request}
use Rattle.opc_gate.specs.Handling.{IsRun}
use Rattle.opc_cli_script.specs.Listening.{AreHeard}
use Rattle.opc_cli_script.proofs.Listening.{heard_more as one_heard}
use Rattle.opc_gate.proofs.Running.{IsNext, run_none, sure_more}
use Rattle.opc_cli_script.specs.Handlers.{AreSteps, IsEndedBy, IsHeardBy}
use Rattle.opc_cli_script.specs.Sessions.{IsStep}
use Rattle.opc_cli_script.specs.Turns.{answers_of, requests_of}
use Rattle.opc_cli_script.specs.declared.turn.Turn.{Turn}
use Rattle.opc_cli_script.specs.declared.turn.Turn.TheVariants.{Blank, Bad, Answered}
use Rattle.opc_cli_script.proofs.Running.{answers_more, requests_more}

module _ {T : Type 0} (handled : T → ℕ → Request → Answer → T → Type 0) where
  pub steps_more : (rs : List (ℕ × Request)) (answers : List Answer) (from mid to : T) (r : ℕ × Request) (answer : Answer)
      → AreSteps handled from mid rs answers → handled mid r.0 r.1 answer to
      → AreSteps handled from to (rs ++ r ∷ []) (answers ++ answer ∷ [])
  steps_more [] [] from mid to r answer same one = (to, subst (λ t. handled t r.0 r.1 answer to) same one, refl)
  steps_more [] (a ∷ answers) from mid to r answer are one = absurd are
  steps_more (q ∷ rs) [] from mid to r answer are one = absurd are
  steps_more (q ∷ rs) (a ∷ answers) from mid to r answer are one =
      (are.0, are.1, steps_more rs answers are.0 mid to r answer are.2 one)

  -- nothing more was handled
  steps_same : (old mid new : T) (rs qs : List (ℕ × Request)) (answers others : List Answer) → qs ≡ rs → others ≡ answers → new ≡ mid
      → AreSteps handled old mid rs answers → AreSteps handled old new qs others
  steps_same old mid new rs qs answers others asked answered same steps =
      subst (λ t. AreSteps handled old t qs others) (sym same)
      (subst (λ x. AreSteps handled old mid x others) (sym asked)
      (subst (λ x. AreSteps handled old mid rs x) (sym answered) steps))

  module _ (m : Meaning T) where
    pub steps_with : (old mid new : T) (turns : List Turn) (turn : Turn)
        → AreSteps handled old mid (requests_of turns) (answers_of turns) → IsStep m handled mid new turn
        → AreSteps handled old new (requests_of (turns ++ turn ∷ [])) (answers_of (turns ++ turn ∷ []))
    steps_with old mid new turns Blank steps step = steps_same old mid new _ _ _ _
        (requests_more turns Blank ∙ append-nil (requests_of turns)) (answers_more turns Blank ∙ append-nil (answers_of turns)) step steps
    steps_with old mid new turns Bad steps step = steps_same old mid new _ _ _ _
        (requests_more turns Bad ∙ append-nil (requests_of turns)) (answers_more turns Bad ∙ append-nil (answers_of turns)) step steps
    steps_with old mid new turns (Answered moment request answer) steps step =
        let turn = Answered moment request answer in
        steps_same old new new _ _ _ _ (requests_more turns turn) (answers_more turns turn) refl
        (steps_more (requests_of turns) (answers_of turns) old mid new (moment, request) answer steps step.2)

    module _ {L : Type 0} (heard : L → ℕ → Answer → L → Type 0) where
      -- nothing is handled yet
      pub heard_none : (now : T) (listener : L) → IsHeardBy m handled heard now now [] listener listener
      heard_none now listener = record {
        run = record { answers = []; run = λ sure s represented. run_none m now s represented; heard_all = refl };
        steps = refl;
      }

      -- one more answer, received
      pub heard_more : (rs : List (ℕ × Request)) (i : ℕ) (r : ℕ × Request) (old mid new : T) (from met to : L) (answer : Answer)
          → i < length rs → r ≡ get_or rs i r
          → IsHeardBy m handled heard old mid (take i rs) from met
          → IsNext m mid new r answer → handled mid r.0 r.1 answer new → heard met r.0 answer to
          → IsHeardBy m handled heard old new (take (i + 1) rs) from to
      heard_more rs i r old mid new from met to answer low is far next more one =
          let all : take (i + 1) rs ≡ take i rs ++ r ∷ [] = take_more rs i r low ∙ ap (λ x. take i rs ++ x ∷ []) (sym is) in
          record {
            run = record {
              answers = far.run.answers ++ answer ∷ [];
              run = sure_more m rs i r old mid new far.run.answers answer low is far.run.run next;
              heard_all = subst (λ qs. AreHeard heard qs (far.run.answers ++ answer ∷ []) from to) (sym all)
                  (one_heard heard (take i rs) far.run.answers from met to r answer far.run.heard_all one);
            };
            steps = subst (λ qs. AreSteps handled old new qs (far.run.answers ++ answer ∷ [])) (sym all)
                (steps_more (take i rs) far.run.answers old mid new r answer far.steps more);
          }

      -- one more answer, not received
      pub heard_last : {F : Type 0} (missed : L → ℕ → Answer → L → F → Type 0) (rs : List (ℕ × Request)) (i : ℕ) (r : ℕ × Request)
          (old mid new : T) (from met to : L) (answer : Answer) (fault : F) → i < length rs → r ≡ get_or rs i r
          → IsHeardBy m handled heard old mid (take i rs) from met
          → IsNext m mid new r answer → handled mid r.0 r.1 answer new → missed met r.0 answer to fault
          → IsEndedBy m handled heard missed old new rs from to fault
      heard_last missed rs i r old mid new from met to answer fault low is far next more one =
          let all : take (i + 1) rs ≡ take i rs ++ r ∷ [] = take_more rs i r low ∙ ap (λ x. take i rs ++ x ∷ []) (sym is) in
          record {
            run = record {
              before = take i rs;
              request = r;
              later = drop (i + 1) rs;
              are = sym (take-append-drop (i + 1) rs) ∙ ap (λ qs. qs ++ drop (i + 1) rs) all ∙ append_assoc (take i rs) (r ∷ []) (drop (i + 1) rs);
              answers = far.run.answers;
              answer = answer;
              run = λ sure s represented. subst (λ qs. IsRun m old new s qs (far.run.answers ++ answer ∷ []))
                  all (sure_more m rs i r old mid new far.run.answers answer low is far.run.run next sure s represented);
              met = met;
              heard_before = far.run.heard_all;
              missed_last = one;
            };
            steps = steps_more (take i rs) far.run.answers old mid new r answer far.steps more;
          }
