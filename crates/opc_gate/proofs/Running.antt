-- A run goes on by one request.
use Rattle.std.proofs.Common.{◌≡◌, inl, inr, ℕ, suc, ◌+◌, ◌<◌, ◌≤◌, List, [], ◌∷◌, ◌++◌, length, take, get_or, Some, refl, subst, sym, ap, ◌∙◌, arith}
use Rattle.std.proofs.Math.Seq.{take-append_seam}
use Rattle.std.proofs.lemmas.List.{append_assoc, length-append, take-append-le, take_more}
use Rattle.std.proofs.lemmas.List.Elements.{All-pop}
use Rattle.opc_state.specs.Meaning.{Meaning}
use Rattle.opc_state.specs.State.{State}
use Rattle.opc_machine.specs.declared.request.Request.{Request}
use Rattle.opc_machine.specs.declared.request.Answer.{Answer}
use Rattle.opc_machine.specs.Inputs.{input_of, inputs_of}
use Rattle.opc_machine.specs.Machine.{Step, Runs, after, outcome}
use Rattle.opc_gate.specs.Handling.{IsAcknowledged, IsAnswered, IsHandled, IsMadeByOne, IsRun}

pub runs_more : (s : State) (rs : List (ℕ × Request)) (answers : List Answer) (mid last : State) (r : ℕ × Request) (answer : Answer)
    → Runs s (inputs_of rs) answers mid → Step mid r.0 (input_of r.1) answer last → Runs s (inputs_of (rs ++ r ∷ [])) (answers ++ answer ∷ []) last
runs_more s [] [] mid last r answer same step = (last, subst (λ t. Step t r.0 (input_of r.1) answer last) same step, refl)
runs_more s [] (a ∷ answers) mid last r answer runs step = absurd runs
runs_more s (q ∷ rs) [] mid last r answer runs step = absurd runs
runs_more s (q ∷ rs) (a ∷ answers) mid last r answer runs step = (runs.0, runs.1, runs_more runs.0 rs answers mid last r answer runs.2 step)

-- each request has its answer
runs_long : (s : State) (rs : List (ℕ × Request)) (answers : List Answer) (last : State) → Runs s (inputs_of rs) answers last → length answers ≡ length rs
runs_long s [] [] last runs = refl
runs_long s [] (a ∷ answers) last runs = absurd runs
runs_long s (r ∷ rs) [] last runs = absurd runs
runs_long s (r ∷ rs) (a ∷ answers) last runs = ap suc (runs_long runs.0 rs answers last runs.2)

-- what one of some requests makes, one of these and one more makes
made_before : (s : State) (rs : List (ℕ × Request)) (answers : List Answer) (last made : State) (r : ℕ × Request)
    (answer : Answer) → Runs s (inputs_of rs) answers last
    → IsMadeByOne s rs answers made → IsMadeByOne s (rs ++ r ∷ []) (answers ++ answer ∷ []) made
made_before s rs answers last made r answer runs m =
    let few : length m.before ≤ length answers =
    omega (arith, runs_long s rs answers last runs, ap length m.are, length-append m.before (m.request ∷ m.later))
    in
    record {
      before = m.before;
      request = m.request;
      later = m.later ++ r ∷ [];
      are = ap (λ qs. qs ++ r ∷ []) m.are ∙ append_assoc m.before (m.request ∷ m.later) (r ∷ []);
      met = m.met;
      runs = subst (λ given. Runs s (inputs_of m.before) given m.met) (sym (take-append-le (length m.before) answers (answer ∷ []) few)) m.runs;
      makes = m.makes;
    }

-- the last request makes its state of the one that those before it led to
made_last : (s : State) (rs : List (ℕ × Request)) (answers : List Answer) (mid made : State) (r : ℕ × Request)
    (answer : Answer) → Runs s (inputs_of rs) answers mid
    → made ≡ after mid r.0 (input_of r.1) (outcome mid (input_of r.1)) → IsMadeByOne s (rs ++ r ∷ []) (answers ++ answer ∷ []) made
made_last s rs answers mid made r answer runs makes =
    let long = runs_long s rs answers mid runs in
    let all : take (length rs) (answers ++ answer ∷ []) ≡ answers =
    ap (λ n. take n (answers ++ answer ∷ [])) (sym long) ∙ take-append_seam answers (answer ∷ []) in
    record {
      before = rs;
      request = r;
      later = [];
      are = refl;
      met = mid;
      runs = subst (λ given. Runs s (inputs_of rs) given mid) (sym all) runs;
      makes = makes;
    }

module _ {T : Type 0} (m : Meaning T) where
  acknowledged_more : (old mid new : T) (s met next : State) → IsAcknowledged m old mid s met
      → IsAcknowledged m mid new met next → IsAcknowledged m old new s next
  acknowledged_more old mid new s met next before (inl alone) = inl alone
  acknowledged_more old mid new s met next (inl alone) (inr same) = inl (λ left h. alone left (same.1 left h) ∙ sym same.0)
  acknowledged_more old mid new s met next (inr first) (inr same) = inr (same.0 ∙ first.0, λ left h. first.1 left (same.1 left h))

  pub run_more : (rs : List (ℕ × Request)) (i : ℕ) (r : ℕ × Request) (old mid new : T) (s : State)
      (answers : List Answer) (answer : Answer) → i < length rs → r ≡ get_or rs i r
      → (run : IsRun m old mid s (take i rs) answers) → IsHandled m mid new run.last r.0 (input_of r.1) answer
      → IsRun m old new s (take (i + 1) rs) (answers ++ answer ∷ [])
  run_more rs i r old mid new s answers answer low is run handled =
      let first = take i rs in
      let all : take (i + 1) rs ≡ first ++ r ∷ [] = take_more rs i r low ∙ ap (λ x. first ++ x ∷ []) (sym is) in
      subst (λ qs. IsRun m old new s qs (answers ++ answer ∷ [])) (sym all) (record {
        last = handled.next;
        runs = runs_more s first answers run.last handled.next r answer run.runs handled.step;
        represented = handled.represented;
        crash = λ left h. elim (handled.crash left h) [
          | inl was ↦ elim (run.crash left was) [ inl before ↦ inl before | inr made ↦ inr (made_before s first answers run.last left r answer run.runs made) ]
          | inr makes ↦ inr (made_last s first answers run.last left r answer run.runs makes)
        ];
        acknowledged = λ answered.
            let each = All-pop IsAnswered (answers ++ answer ∷ []) answers (Some answer) refl answered in
            acknowledged_more old mid new s run.last handled.next (run.acknowledged each.0) (handled.acknowledged each.1);
      })

  -- nothing is handled yet
  pub run_none : (now : T) (s : State) → m.represents now s → IsRun m now now s [] []
  run_none now s represented = record { last = s; runs = refl; represented = represented; crash = λ left h. inl h; acknowledged = λ _. inr (refl, λ left h. h) }

module _ {T : Type 0} (m : Meaning T) where
  -- if the tables are sure, these are the answers of a run
  abbrev pub IsSureRun : T → T → List (ℕ × Request) → List Answer → Type 0
  IsSureRun old new requests answers = m.is_sure new → (s : State) → m.represents old s → IsRun m old new s requests answers

  -- the outcome of one more request, and what the tables are sure of
  abbrev pub IsNext : T → T → ℕ × Request → Answer → Type 0
  IsNext mid new r answer = (m.is_sure new → m.is_sure mid)
      × (m.is_sure new → (s : State) → m.represents mid s
      → IsHandled m mid new s r.0 (input_of r.1) answer)

  pub sure_more : (rs : List (ℕ × Request)) (i : ℕ) (r : ℕ × Request) (old mid new : T) (answers : List Answer)
      (answer : Answer) → i < length rs → r ≡ get_or rs i r
      → IsSureRun old mid (take i rs) answers → IsNext mid new r answer → IsSureRun old new (take (i + 1) rs) (answers ++ answer ∷ [])
  sure_more rs i r old mid new answers answer low is far next sure s represented =
      let was = far (next.0 sure) s represented in
      run_more m rs i r old mid new s answers answer low is was (next.1 sure was.last was.represented)
