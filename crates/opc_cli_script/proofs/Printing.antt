-- What a listener that writes the text of each answer prints.
use Rattle.std.proofs.Common.{
  ◌≡◌,
  ℕ,
  Bool,
  true,
  if◌then◌else◌,
  suc,
  List,
  [],
  ◌∷◌,
  ◌++◌,
  Option,
  Result,
  Ok,
  Err,
  IfErr,
  OnOk,
  length,
  refl,
  sym,
  ap,
  subst,
  ◌∙◌,
}
use Rattle.std.specs.Io.KnownBytes.{Appends}
use Rattle.std.proofs.lemmas.List.{append_assoc, append-nil}
use Rattle.opc_state.specs.Meaning.{Meaning}
use Rattle.opc_machine.specs.declared.request.Request.{Request}
use Rattle.opc_machine.specs.declared.request.Answer.{Answer}
use Rattle.opc_cli_script.specs.Listening.{AreHeard}
use Rattle.opc_cli_failures.specs.declared.status.Status.{Status}
use Rattle.opc_cli_failures.specs.declared.status.Status.TheVariants.{Done}
use Rattle.opc_cli_script.specs.declared.script.ScriptFault.{ScriptFault}
use Rattle.opc_cli_script.specs.Handlers.{AreSteps, IsEndedBy, IsHeardBy}
use Rattle.opc_cli_script.specs.Refusals.{is_cut_by_output, is_output}
use Rattle.opc_cli_script.specs.Running.{IsCut, IsCutOff, IsWhole}
use Rattle.opc_cli_script.specs.Statuses.{status_of}
use Rattle.opc_cli_script.specs.Transcripts.{answer_text, transcript}
use Rattle.opc_cli_script.proofs.Written.{appends_more, appends_none}

-- `same` names the output that it writes to, and `failed` states whether a write to it failed
module _ {L N : Type 0} (heard : L → ℕ → Answer → L → Type 0) (same : L → N) (contents : L → Option (List ℕ)) (failed : L → Bool) (status : L → Status) where
  abbrev pub Prints : Type 0
  Prints = (l : L) (moment : ℕ) (answer : Answer) (n : L) → heard l moment answer n
      → (same n ≡ same l) × Appends (contents l) (contents n) (answer_text moment answer) × (failed n ≡ failed l)
      × ((answers : List Answer) → status l ≡ status_of answers → status n ≡ status_of (answers ++ answer ∷ []))

  pub record IsPrinted (rs : List (ℕ × Request)) (answers : List Answer) (from to : L) : Type 0 where
    pub same_output : same to ≡ same from
    pub text : Appends (contents from) (contents to) (transcript rs answers)
    pub fine : failed to ≡ failed from
    pub ends : (first : List Answer) → status from ≡ status_of first → status to ≡ status_of (first ++ answers)
    pub each : length answers ≡ length rs

  pub printed : Prints → (rs : List (ℕ × Request)) (answers : List Answer) (from to : L) → AreHeard heard rs answers from to → IsPrinted rs answers from to
  printed prints [] [] from to none =
      record {
        same_output = ap same none;
        text = subst (λ l. Appends (contents from) (contents l) []) (sym none) (appends_none (contents from));
        fine = ap failed none;
        ends = λ first h. ap status none ∙ h ∙ ap status_of (sym (append-nil first));
        each = refl;
      }
  printed prints [] (a ∷ answers) from to are = absurd are
  printed prints (r ∷ rs) [] from to are = absurd are
  printed prints (r ∷ rs) (a ∷ answers) from to are =
      let one = prints from r.0 a are.0 are.1 in
      let rest = printed prints rs answers are.0 to are.2 in
      record {
        same_output = rest.same_output ∙ one.0;
        text = appends_more (contents from) (contents are.0) (contents to) (answer_text r.0 a) (transcript rs answers) one.1 rest.text;
        fine = rest.fine ∙ one.2;
        ends = λ first h. rest.ends (first ++ a ∷ []) (one.3 first h) ∙ ap status_of (append_assoc first (a ∷ []) answers);
        each = ap suc rest.each;
      }

  abbrev pub CutsOff : (L → ℕ → Answer → L → ScriptFault → Type 0) → Type 0
  CutsOff missed = (l : L) (moment : ℕ) (answer : Answer) (n : L) (fault : ScriptFault) → missed l moment answer n fault
      → (same n ≡ same l) × IsCutOff fault (contents l) (contents n) (answer_text moment answer) × (failed n ≡ (if is_output fault then true else failed l))

  module _ {T : Type 0} (m : Meaning T) (handled : T → ℕ → Request → Answer → T → Type 0) (old new : T) (rs : List (ℕ × Request)) (from to : L) where
    pub whole : Prints → IsHeardBy m handled heard old new rs from to → status from ≡ Done
        → IsWhole m (AreSteps handled) old new rs (contents from) (contents to) (status to)
    whole prints done_by start =
        let done = printed prints rs done_by.run.answers from to done_by.run.heard_all in
        record { answers = done_by.run.answers; each = done.each; run = done_by.run.run; tells = done_by.steps; text = done.text; ends = done.ends [] start }

    pub whole_fine : Prints → IsHeardBy m handled heard old new rs from to → failed to ≡ failed from
    whole_fine prints done_by = (printed prints rs done_by.run.answers from to done_by.run.heard_all).fine

    pub whole_same : Prints → IsHeardBy m handled heard old new rs from to → same to ≡ same from
    whole_same prints done_by = (printed prints rs done_by.run.answers from to done_by.run.heard_all).same_output

    pub cut : (missed : L → ℕ → Answer → L → ScriptFault → Type 0) (fault : ScriptFault) → Prints → CutsOff missed
        → IsEndedBy m handled heard missed old new rs from to fault
        → IsCut m (AreSteps handled) old new rs (contents from) (contents to) fault
    cut missed fault prints cuts done_by =
        let done = printed prints done_by.run.before done_by.run.answers from done_by.run.met done_by.run.heard_before in
        record {
          reported = done_by.run.before;
          request = done_by.run.request;
          later = done_by.run.later;
          are = done_by.run.are;
          answers = done_by.run.answers;
          each = done.each;
          answer = done_by.run.answer;
          run = done_by.run.run;
          tells = done_by.steps;
          met = contents done_by.run.met;
          text = done.text;
          cut_off = (cuts done_by.run.met done_by.run.request.0 done_by.run.answer to fault done_by.run.missed_last).1;
        }

    pub cut_failed : (missed : L → ℕ → Answer → L → ScriptFault → Type 0) (fault : ScriptFault) → Prints
        → CutsOff missed → IsEndedBy m handled heard missed old new rs from to fault
        → failed to ≡ (if is_output fault then true else failed from)
    cut_failed missed fault prints cuts done_by =
        (cuts done_by.run.met done_by.run.request.0 done_by.run.answer to fault done_by.run.missed_last).2
        ∙ ap (λ before. if is_output fault then true else before)
        (printed prints done_by.run.before done_by.run.answers from done_by.run.met done_by.run.heard_before).fine

    pub cut_same : (missed : L → ℕ → Answer → L → ScriptFault → Type 0) (fault : ScriptFault) → Prints → CutsOff missed
        → IsEndedBy m handled heard missed old new rs from to fault → same to ≡ same from
    cut_same missed fault prints cuts done_by =
        (cuts done_by.run.met done_by.run.request.0 done_by.run.answer to fault done_by.run.missed_last).0
        ∙ (printed prints done_by.run.before done_by.run.answers from done_by.run.met done_by.run.heard_before).same_output

pub on_ok : {A E P Q : Type 0} (r : Result A E) → (P → Q) → OnOk r P → OnOk r Q
on_ok (Ok a) f p = f p
on_ok (Err e) f p = tt

pub if_err : {A E : Type 0} {P Q : E → Type 0} (r : Result A E) → ((e : E) → P e → Q e) → IfErr r P → IfErr r Q
if_err (Ok a) f p = tt
if_err (Err e) f p = f e p

-- whichever way it ends
pub either_way : {A E P Q : Type 0} {M : E → Type 0} (r : Result A E) → OnOk r P → IfErr r M → (P → Q) → ((e : E) → M e → Q) → Q
either_way (Ok a) p m f g = f p
either_way (Err e) p m f g = g e m

-- whether a write failed, whichever way it ends
pub failed_by : {A P : Type 0} {M : ScriptFault → Type 0} (r : Result A ScriptFault) (before after : Bool) → OnOk r P → IfErr r M
    → (P → after ≡ before) → ((fault : ScriptFault) → M fault → after ≡ (if is_output fault then true else before))
    → after ≡ (if is_cut_by_output r then true else before)
failed_by (Ok a) before after p m f g = f p
failed_by (Err e) before after p m f g = g e m
