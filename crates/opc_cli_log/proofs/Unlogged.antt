-- Lines that are answered by a gate with a log are answered by the gate.
use Rattle.std.proofs.Common.{◌≡◌, ◌+◌, ◌++◌, ℕ, List, Option, Some, None, MatchOption, ap, length}
use Rattle.std.specs.Option.{option_to_list}
use Rattle.opc_state.specs.Meaning.{Meaning}
use Rattle.opc_state.specs.State.{State}
use Rattle.opc_machine.specs.declared.request.Answer.{Answer}
use Rattle.opc_machine.specs.Inputs.{Input}
use Rattle.opc_gate.specs.Handling.{IsHandled}
use Rattle.opc_cli_failures.specs.declared.status.Status.{Status}
use Rattle.opc_cli_script.specs.Handlers.{AreSteps, nothing_more}
use Rattle.opc_cli_script.specs.Sessions.{AreTaken, IsCutSession, IsCutTurn, IsReadAs, IsRunOf, IsSession, IsStep}
use Rattle.opc_cli_script.specs.Turns.{answers_of, requests_of}
use Rattle.opc_cli_script.specs.declared.fault.NowFault.{NowFault}
use Rattle.opc_cli_script.specs.declared.reading_now.Typed.{Typed}
use Rattle.opc_cli_script.specs.declared.turn.Turn.{Turn}
use Rattle.opc_cli_script.specs.declared.turn.Turn.TheVariants.{Blank, Bad, Answered}
use Rattle.opc_cli_log.specs.RunLogs.{IsLogOf, IsLoggedRequest, logged_meaning}
use Rattle.opc_cli_log.specs.declared.gate.LoggedGate.{LoggedGate}
use Rattle.opc_cli_log.proofs.Logged.{log_of}

module _ {T : Type 0} (m : Meaning T) {W : Type 0} (contents : W → Option (List ℕ)) where
  handled_over : (x y : LoggedGate T W) (s : State) (moment : ℕ) (r : Input) (answer : Answer)
      → IsHandled (logged_meaning {T = T} {W = W} m) x y s moment r answer → IsHandled m x.gate y.gate s moment r answer
  handled_over x y s moment r answer h = record {
    next = h.next;
    step = h.step;
    represented = h.represented;
    crash = h.crash;
    idle = h.idle;
    acknowledged = h.acknowledged;
  }

  run_over : (x y : LoggedGate T W) (turns : List Turn) → IsRunOf (logged_meaning {T = T} {W = W} m) x y turns → IsRunOf m x.gate y.gate turns
  run_over x y turns run = λ sure s represented.
      let r = run sure s represented in
      record { last = r.last; runs = r.runs; represented = r.represented; crash = r.crash; acknowledged = r.acknowledged }

  step_over : (x y : LoggedGate T W) (turn : Turn) → IsStep (logged_meaning {T = T} {W = W} m) (IsLoggedRequest m contents) x y turn
      → IsStep m nothing_more x.gate y.gate turn
  step_over x y Blank same = ap (λ (z : LoggedGate T W). z.gate) same
  step_over x y Bad same = ap (λ (z : LoggedGate T W). z.gate) same
  step_over x y (Answered moment request answer) step =
      (step.0, (λ sure s represented. handled_over x y s moment _ answer (step.1 sure s represented)), tt)

  module _ {D : Type 0} (reads : D → Typed → D → Type 0) (dates : D → ℕ → D → Type 0) (says : D → List ℕ → D → Type 0)
      (held : D → Option (List ℕ)) (console : Option (List ℕ)) (x y : LoggedGate T W) (first last : D) where
    taken_over : (z : LoggedGate T W) (met : D) (turns : List Turn)
        → AreTaken reads dates says held (logged_meaning {T = T} {W = W} m) (IsLoggedRequest m contents) console x z first met turns
        → AreTaken reads dates says held m nothing_more console x.gate z.gate first met turns
    taken_over z met turns t = record { are = t.are; text = t.text; run = run_over x z turns t.run }

    pub session_over : (status : Status)
        → IsSession reads dates says held (logged_meaning {T = T} {W = W} m) (IsLoggedRequest m contents) console
        (AreSteps (IsLoggedRequest m contents)) x y first last status
        → IsSession reads dates says held m nothing_more console (IsLogOf m contents x.log y.log) x.gate y.gate first last status
    session_over status s = record {
      turns = s.turns;
      ended = s.ended;
      taken = taken_over y s.ended s.turns s.taken;
      ends = s.ends;
      silent = s.silent;
      status_is = s.status_is;
      tells = log_of m contents (requests_of s.turns) (answers_of s.turns) x y s.tells;
    }

    read_over : (met : D) (turn : Turn)
        → IsReadAs reads dates says held (logged_meaning {T = T} {W = W} m) (IsLoggedRequest m contents) console met turn
        → IsReadAs reads dates says held m nothing_more console met turn
    read_over met turn r = record { typed = r.typed; read_to = r.read_to; read = r.read; is = r.is }

    cut_over : (number : ℕ) (z : LoggedGate T W) (met : D) (fault : NowFault)
        → IsCutTurn reads dates says held (logged_meaning {T = T} {W = W} m) (IsLoggedRequest m contents)
        (IsReadAs reads dates says held (logged_meaning {T = T} {W = W} m) (IsLoggedRequest m contents) console met) number z y met last fault
        → IsCutTurn reads dates says held m nothing_more (IsReadAs reads dates says held m nothing_more console met) number
        z.gate y.gate met last fault
    cut_over number z met fault c = record { turn = c.turn; fits = c.fits; made = go c.turn c.made; text = c.text }
      where
        go : (turn : Option Turn)
            → MatchOption turn (y ≡ z) (λ t. IsReadAs reads dates says held (logged_meaning {T = T} {W = W} m) (IsLoggedRequest m contents) console met t
            × IsStep (logged_meaning {T = T} {W = W} m) (IsLoggedRequest m contents) z y t)
            → MatchOption turn (y.gate ≡ z.gate) (λ t. IsReadAs reads dates says held m nothing_more console met t
            × IsStep m nothing_more z.gate y.gate t)
        go None same = ap (λ (v : LoggedGate T W). v.gate) same
        go (Some t) made = (read_over met t made.0, step_over z y t made.1)

    pub cut_session_over : (fault : NowFault)
        → IsCutSession reads dates says held (logged_meaning {T = T} {W = W} m) (IsLoggedRequest m contents) console
        (AreSteps (IsLoggedRequest m contents)) x y first last fault
        → IsCutSession reads dates says held m nothing_more console (IsLogOf m contents x.log y.log) x.gate y.gate first last fault
    unfolding cut_over
    cut_session_over fault c = record {
      turns = c.turns;
      mid = c.mid.gate;
      met = c.met;
      taken = taken_over c.mid c.met c.turns c.taken;
      cut = cut_over (length c.turns + 1) c.mid c.met fault c.cut;
      run = run_over x y (c.turns ++ option_to_list c.cut.turn) c.run;
      tells = log_of m contents (requests_of (c.turns ++ option_to_list c.cut.turn)) (answers_of (c.turns ++ option_to_list c.cut.turn))
          x y c.tells;
    }
