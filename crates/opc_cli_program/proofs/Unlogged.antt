-- Lines that were answered by a gate with a log.
use Rattle.std.proofs.Common.{ℕ, Bool, List, Option, Result, Ok, Err, MatchResult}
use Rattle.opc_state.specs.Meaning.{Meaning}
use Rattle.opc_cli_failures.specs.declared.failure.Failure.{Failure}
use Rattle.opc_cli_failures.specs.declared.status.Status.{Status}
use Rattle.opc_cli_script.specs.Handlers.{AreSteps, nothing_more}
use Rattle.opc_cli_script.specs.Sessions.{IsCutSession, IsSession}
use Rattle.opc_cli_script.specs.declared.fault.NowFault.{NowFault}
use Rattle.opc_cli_log.specs.RunLogs.{IsLogOf, IsLoggedRequest, logged_meaning}
use Rattle.opc_cli_log.specs.declared.gate.LoggedGate.{LoggedGate}
use Rattle.opc_cli_log.proofs.Unlogged.{cut_session_over, session_over}
use Rattle.opc_cli_program.specs.Lines.{AreLinesAnswered, AreLinesAnsweredBy, IsDated, IsLineRead, IsSaid, Streams, output_of}

module _ {T : Type 0} (m : Meaning T) {W : Type 0} (contents : W → Option (List ℕ)) {K : Type 0} (held : K → Option (List ℕ))
    (has_failed : K → Bool) (shows : ℕ → Type 0) (console : Option (List ℕ)) (x y : LoggedGate T W) where
  ran_over : (first last : Streams) (ran : Result Status NowFault)
      → MatchResult ran (IsSession IsLineRead (IsDated shows) IsSaid output_of (logged_meaning {T = T} {W = W} m) (IsLoggedRequest m contents) console
      (AreSteps (IsLoggedRequest m contents)) x y first last)
      (IsCutSession IsLineRead (IsDated shows) IsSaid output_of (logged_meaning {T = T} {W = W} m) (IsLoggedRequest m contents) console
      (AreSteps (IsLoggedRequest m contents)) x y first last)
      → MatchResult ran (IsSession IsLineRead (IsDated shows) IsSaid output_of m nothing_more console (IsLogOf m contents x.log y.log)
      x.gate y.gate first last)
      (IsCutSession IsLineRead (IsDated shows) IsSaid output_of m nothing_more console (IsLogOf m contents x.log y.log) x.gate y.gate first last)
  ran_over first last (Ok status) run = session_over m contents IsLineRead (IsDated shows) IsSaid output_of console x y first last status run
  ran_over first last (Err fault) run = cut_session_over m contents IsLineRead (IsDated shows) IsSaid output_of console x y first last fault run

  pub lines_over : (left : Option (List ℕ)) (before written : K) (end : Result Status Failure)
      → AreLinesAnsweredBy (logged_meaning {T = T} {W = W} m) (IsLoggedRequest m contents) held has_failed shows console
      (AreSteps (IsLoggedRequest m contents)) x y left before written end
      → AreLinesAnswered m held has_failed shows console (IsLogOf m contents x.log y.log) x.gate y.gate left before written end
  lines_over left before written end are = record {
    rest = are.rest;
    ran = are.ran;
    run = ran_over (left, held before) (are.rest, held written) are.ran are.run;
    failed = are.failed;
    ends = are.ends;
  }
