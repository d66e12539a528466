-- What is run over tables with more before them, a cache or a log, stated for the tables alone.
use Rattle.std.proofs.Common.{◌⊎◌, inl, inr, ℕ, Bool, List, [], ◌∷◌, Option, Some, None, Result, Ok, Err, MatchOption, ap}
use Rattle.opc_state.specs.Meaning.{Meaning}
use Rattle.opc_state.specs.State.{State}
use Rattle.opc_machine.specs.declared.request.Request.{Request}
use Rattle.opc_machine.specs.declared.request.Answer.{Answer}
use Rattle.opc_gate.specs.Handling.{IsAcknowledged, IsRun}
use Rattle.opc_cli_failures.specs.declared.status.Status.{Status}
use Rattle.opc_cli_failures.specs.declared.failure.Failure.{Failure}
use Rattle.opc_cli_script.specs.declared.script.ScriptFault.{ScriptFault}
use Rattle.opc_cli_script.specs.Handlers.{AreSteps, nothing_more}
use Rattle.opc_cli_script.specs.Running.{IsAnswered, IsCut, IsNotBegun, IsScriptRun, IsWhole}
use Rattle.opc_cli_script.specs.Scripts.{bad_line, requests_in}
use Rattle.opc_cli_program.specs.Runs.{IsAnsweredInput, IsInputRun, IsNothingRun, IsRunOfBytes}

-- nothing more is known of the requests
pub steps_viewed : {T X : Type 0} (view : X → T) (rs : List (ℕ × Request)) (answers : List Answer) (x y : X)
    → AreSteps nothing_more x y rs answers → AreSteps nothing_more (view x) (view y) rs answers
steps_viewed view [] [] x y same = ap view same
steps_viewed view [] (a ∷ answers) x y are = absurd are
steps_viewed view (r ∷ rs) [] x y are = absurd are
steps_viewed view (r ∷ rs) (a ∷ answers) x y are = (view are.0, tt, steps_viewed view rs answers are.0 y are.2)

-- `view` is the tables. What they represent at first, they represent with what is before them.
module _ {T X : Type 0} (m : Meaning T) (n : Meaning X) (view : X → T) (told : (old new : X) → List (ℕ × Request) → List Answer → Type 0)
    (there : (old new : T) → List (ℕ × Request) → List Answer → Type 0) (old new : X)
    (tell : (rs : List (ℕ × Request)) (answers : List Answer) → told old new rs answers → there (view old) (view new) rs answers)
    (sure : m.is_sure (view new) → n.is_sure new)
    (above : (s : State) → m.represents (view old) s → n.represents old s)
    (below : (s : State) → n.represents new s → m.represents (view new) s)
    (leaves : (s : State) → m.may_leave (view new) s → n.may_leave new s)
    (left_before : (s : State) → n.may_leave old s → m.may_leave (view old) s) where
  map_either : {A B C D : Type 0} → (A → C) → (B → D) → A ⊎ B → C ⊎ D
  map_either f g (inl a) = inl (f a)
  map_either f g (inr b) = inr (g b)

  acknowledged : (s last : State) → IsAcknowledged n old new s last → IsAcknowledged m (view old) (view new) s last
  acknowledged s last (inl alone) = inl (λ left l. alone left (leaves left l))
  acknowledged s last (inr same) = inr (same.0, λ left l. left_before left (same.1 left (leaves left l)))

  pub run : (s : State) (rs : List (ℕ × Request)) (answers : List Answer) → IsRun n old new s rs answers
      → IsRun m (view old) (view new) s rs answers
  run s rs answers r = record {
    last = r.last;
    runs = r.runs;
    represented = below r.last r.represented;
    crash = λ left l. elim (r.crash left (leaves left l)) [
      | inl was ↦ inl (left_before left was)
      | inr made ↦ inr made
    ];
    acknowledged = λ answered. acknowledged s r.last (r.acknowledged answered);
  }

  whole : (rs : List (ℕ × Request)) (before written : Option (List ℕ)) (status : Status) → IsWhole n told old new rs before written status
      → IsWhole m there (view old) (view new) rs before written status
  whole rs before written status w = record {
    answers = w.answers;
    each = w.each;
    run = λ is s h. run s rs w.answers (w.run (sure is) s (above s h));
    tells = tell rs w.answers w.tells;
    text = w.text;
    ends = w.ends;
  }

  cut : (rs : List (ℕ × Request)) (before written : Option (List ℕ)) (fault : ScriptFault) → IsCut n told old new rs before written fault
      → IsCut m there (view old) (view new) rs before written fault
  cut rs before written fault w = record {
    reported = w.reported;
    request = w.request;
    later = w.later;
    are = w.are;
    answers = w.answers;
    each = w.each;
    answer = w.answer;
    run = λ is s h. run s _ _ (w.run (sure is) s (above s h));
    tells = tell _ _ w.tells;
    met = w.met;
    text = w.text;
    cut_off = w.cut_off;
  }

  not_begun : (before written : Option (List ℕ)) (fault : ScriptFault) → IsNotBegun n told old new before written fault
      → IsNotBegun m there (view old) (view new) before written fault
  not_begun before written fault w = record { no_memory = w.no_memory; same = ap view w.same; nothing = w.nothing }

  script : (rs : List (ℕ × Request)) (before written : Option (List ℕ)) (ran : Result Status ScriptFault)
      → IsScriptRun n told old new rs before written ran
      → IsScriptRun m there (view old) (view new) rs before written ran
  script rs before written (Ok status) w = whole rs before written status w
  script rs before written (Err fault) (inl w) = inl (not_begun before written fault w)
  script rs before written (Err fault) (inr w) = inr (cut rs before written fault w)

  match_option : {A P Q : Type 0} {F G : A → Type 0} (o : Option A) → (P → Q) → ((a : A) → F a → G a) → MatchOption o P F → MatchOption o Q G
  match_option None f g p = f p
  match_option (Some a) f g p = g a p

  answered : (text : List ℕ) (before written : Option (List ℕ)) (ran : Result Status ScriptFault)
      → IsAnswered n told old new text before written ran
      → IsAnswered m there (view old) (view new) text before written ran
  answered text before written ran = match_option (bad_line text) (script (requests_in text) before written ran)
      (λ number bad. (ap view bad.0, bad.1))

  bytes : (text : List ℕ) (before written : Option (List ℕ)) (ran : Result Status ScriptFault) → IsRunOfBytes n told old new text before written ran
      → IsRunOfBytes m there (view old) (view new) text before written ran
  bytes text before written ran = map_either (λ w. (w.0, answered text before written ran w.1)) (λ w. (w.0, ap view w.1, w.2))

  module _ {K : Type 0} (held : K → Option (List ℕ)) (has_failed : K → Bool) (left : Option (List ℕ)) (before written : K) (end : Result Status Failure) where
    nothing : IsNothingRun n told held has_failed old new before written end
        → IsNothingRun m there held has_failed (view old) (view new) before written end
    nothing w = record { unread = w.unread; same = ap view w.same; silent = w.silent }

    input : IsInputRun n told held has_failed old new left before written end
        → IsInputRun m there held has_failed (view old) (view new) left before written end
    input w = record {
      script = w.script;
      are = w.are;
      ran = w.ran;
      run = bytes w.script (held before) (held written) w.ran w.run;
      failed = w.failed;
      ends = w.ends;
    }

    pub answered_input : IsAnsweredInput n told held has_failed old new left before written end
        → IsAnsweredInput m there held has_failed (view old) (view new) left before written end
    answered_input = map_either nothing input
