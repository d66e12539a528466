-- A run over a gate with a log is one over the gate, with the lines of its requests.
use Rattle.std.proofs.Common.{◌∷◌, ℕ, List, [], Option, refl, ap, subst}
use Rattle.opc_state.specs.Meaning.{Meaning}
use Rattle.opc_machine.specs.declared.request.Answer.{Answer}
use Rattle.opc_machine.specs.declared.request.Request.{Request}
use Rattle.opc_cli_script.specs.Handlers.{AreSteps}
use Rattle.opc_cli_log.specs.RunLines.{logged}
use Rattle.opc_cli_log.specs.RunLogs.{IsLogOf, IsLoggedRequest}
use Rattle.opc_cli_log.specs.declared.gate.LoggedGate.{LoggedGate}

module _ {T : Type 0} (m : Meaning T) {W : Type 0} (contents : W → Option (List ℕ)) where
  -- what the tables are sure of at the end, they are sure of at first
  steps_sure : (rs : List (ℕ × Request)) (answers : List Answer) (x y : LoggedGate T W)
      → AreSteps (IsLoggedRequest m contents) x y rs answers → m.is_sure y.gate → m.is_sure x.gate
  steps_sure [] [] x y same sure = subst (λ (z : LoggedGate T W). m.is_sure z.gate) same sure
  steps_sure [] (a ∷ answers) x y are sure = absurd are
  steps_sure (r ∷ rs) [] x y are sure = absurd are
  steps_sure (r ∷ rs) (a ∷ answers) x y are sure = are.1.sure (steps_sure rs answers are.0 y are.2 sure)

  pub log_of : (rs : List (ℕ × Request)) (answers : List Answer) (x y : LoggedGate T W)
      → AreSteps (IsLoggedRequest m contents) x y rs answers
      → IsLogOf m contents x.log y.log x.gate y.gate rs answers
  log_of [] [] x y same = record {
    entries = [];
    asked = refl;
    answered = refl;
    added = ap (λ (z : LoggedGate T W). z.log) same;
    known = λ sure s represented. tt;
  }
  log_of [] (a ∷ answers) x y are = absurd are
  log_of (r ∷ rs) [] x y are = absurd are
  log_of (r ∷ rs) (a ∷ answers) x y are =
      let one = are.1 in
      let rest = log_of rs answers are.0 y are.2 in
      record {
        entries = logged r.0 r.1 one.user a one.row ∷ rest.entries;
        asked = ap (λ qs. r ∷ qs) rest.asked;
        answered = ap (λ others. a ∷ others) rest.answered;
        added = (are.0.log, one.added, rest.added);
        known = λ sure s represented.
            let here = one.handled (steps_sure rs answers are.0 y are.2 sure) s represented in
            (here.handled.next, here.handled.step, here.known, rest.known sure here.handled.next here.handled.represented);
      }
