-- A run of the machine, of the requests of turns, goes on by one turn.
use Rattle.std.proofs.Common.{◌≡◌, ◌<◌, ◌+◌, ◌∙◌, ◌++◌, ◌∷◌, ℕ, List, [], length, take, get_or, sym, ap, subst, arith}
use Rattle.std.specs.Option.{option_to_list}
use Rattle.std.proofs.lemmas.List.{append-nil, length-append, take_all}
use Rattle.std.proofs.lemmas.List.Concat.{flat_map-append}
use Rattle.std.proofs.Math.Seq.{get_or-append_seam, take-append_seam}
use Rattle.opc_state.specs.Meaning.{Meaning}
use Rattle.opc_state.specs.State.{State}
use Rattle.opc_machine.specs.declared.request.Answer.{Answer}
use Rattle.opc_machine.specs.declared.request.Request.{Request}
use Rattle.opc_machine.specs.Inputs.{input_of}
use Rattle.opc_gate.specs.Handling.{IsHandled, IsRun}
use Rattle.opc_gate.proofs.Running.{run_more, run_none}
use Rattle.opc_cli_script.specs.Sessions.{IsRunOf, IsStep}
use Rattle.opc_cli_script.specs.Turns.{answer_of, answers_of, request_of, requests_of}
use Rattle.opc_cli_script.specs.declared.turn.Turn.{Turn}
use Rattle.opc_cli_script.specs.declared.turn.Turn.TheVariants.{Blank, Bad, Answered}

pub requests_more : (turns : List Turn) (turn : Turn) → requests_of (turns ++ turn ∷ []) ≡ requests_of turns ++ option_to_list (request_of turn)
requests_more turns turn = flat_map-append _ turns (turn ∷ []) ∙ ap (λ t. requests_of turns ++ t) (append-nil (option_to_list (request_of turn)))

pub answers_more : (turns : List Turn) (turn : Turn) → answers_of (turns ++ turn ∷ []) ≡ answers_of turns ++ option_to_list (answer_of turn)
answers_more turns turn = flat_map-append _ turns (turn ∷ []) ∙ ap (λ t. answers_of turns ++ t) (append-nil (option_to_list (answer_of turn)))

module _ {T : Type 0} (m : Meaning T) where
  run_on : (old mid new : T) (s : State) (rs : List (ℕ × Request)) (answers : List Answer) (r : ℕ × Request) (answer : Answer)
      → (run : IsRun m old mid s rs answers) → IsHandled m mid new run.last r.0 (input_of r.1) answer
      → IsRun m old new s (rs ++ r ∷ []) (answers ++ answer ∷ [])
  run_on old mid new s rs answers r answer run handled =
      let all = rs ++ r ∷ [] in
      let long : length all ≡ length rs + 1 = length-append rs (r ∷ []) in
      let seam : take (length rs) all ≡ rs = take-append_seam rs (r ∷ []) in
      let whole : take (length rs + 1) all ≡ all = take_all (length rs + 1) all (omega (arith, long)) in
      let is : r ≡ get_or all (length rs) r = sym (get_or-append_seam rs r [] r) in
      let low : length rs < length all = omega (arith, long) in
      let step : (first : IsRun m old mid s (take (length rs) all) answers)
      → IsHandled m mid new first.last r.0 (input_of r.1) answer
      → IsRun m old new s (take (length rs + 1) all) (answers ++ answer ∷ []) =
      λ first step. run_more m all (length rs) r old mid new s answers answer low is first step in
      let same : (first : IsRun m old mid s rs answers) → IsHandled m mid new first.last r.0 (input_of r.1) answer
      → IsRun m old new s (take (length rs + 1) all) (answers ++ answer ∷ []) =
      subst (λ qs. (first : IsRun m old mid s qs answers) → IsHandled m mid new first.last r.0 (input_of r.1) answer
      → IsRun m old new s (take (length rs + 1) all) (answers ++ answer ∷ [])) seam step in
      subst (λ qs. IsRun m old new s qs (answers ++ answer ∷ [])) whole (same run handled)

  -- nothing is handled yet
  pub run_begins : (now : T) → IsRunOf m now now []
  run_begins now sure s represented = run_none m now s represented

  same_run : (old mid new : T) (turns : List Turn) (turn : Turn) → requests_of (turns ++ turn ∷ []) ≡ requests_of turns
      → answers_of (turns ++ turn ∷ []) ≡ answers_of turns → new ≡ mid → IsRunOf m old mid turns → IsRunOf m old new (turns ++ turn ∷ [])
  same_run old mid new turns turn asked answered same run =
      subst (λ t. IsRunOf m old t (turns ++ turn ∷ [])) (sym same)
      (λ sure s represented. subst (λ rs. IsRun m old mid s rs (answers_of (turns ++ turn ∷ []))) (sym asked)
      (subst (λ answers. IsRun m old mid s (requests_of turns) answers) (sym answered) (run sure s represented)))

  pub run_with : (handled : T → ℕ → Request → Answer → T → Type 0) (old mid new : T) (turns : List Turn) (turn : Turn) → IsRunOf m old mid turns
      → IsStep m handled mid new turn
      → IsRunOf m old new (turns ++ turn ∷ [])
  run_with extra old mid new turns Blank run step = same_run old mid new turns Blank
      (requests_more turns Blank ∙ append-nil (requests_of turns)) (answers_more turns Blank ∙ append-nil (answers_of turns)) step run
  run_with extra old mid new turns Bad run step = same_run old mid new turns Bad
      (requests_more turns Bad ∙ append-nil (requests_of turns)) (answers_more turns Bad ∙ append-nil (answers_of turns)) step run
  run_with extra old mid new turns (Answered moment request answer) run step = λ sure s represented.
      let turn = Answered moment request answer in
      let was = run (step.0 sure) s represented in
      let more = run_on old mid new s (requests_of turns) (answers_of turns) (moment, request) answer was (step.1 sure was.last was.represented) in
      subst (λ rs. IsRun m old new s rs (answers_of (turns ++ turn ∷ []))) (sym (requests_more turns turn))
      (subst (λ answers. IsRun m old new s (requests_of turns ++ (moment, request) ∷ []) answers) (sym (answers_more turns turn)) more)
