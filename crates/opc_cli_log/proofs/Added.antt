-- A line was added to a log.
use Rattle.std.proofs.Common.{◌≡◌, ℕ, List, Option, Some, None, MatchOption, false}
use Rattle.std.specs.Option.{is_some}
use Rattle.std.specs.declared.io.Error.{Error}
use Rattle.opc_cli_log.specs.RunLines.{LoggedRequest}
use Rattle.opc_cli_log.specs.RunLogs.{IsAdded, IsLineCut, IsLineWhole}
use Rattle.opc_cli_log.specs.declared.log.RunLog.{RunLog}

module _ {W : Type 0} (contents : W → Option (List ℕ)) (entry : LoggedRequest) where
  pub whole_added : (old new : RunLog W) → is_some old.fault ≡ false → is_some new.fault ≡ false
      → IsLineWhole entry (contents old.output.inner) (contents new.output.inner) → IsAdded contents entry old new
  whole_added old new fine still whole = go old.fault new.fault fine still
    where
      go : (before after : Option Error) → is_some before ≡ false → is_some after ≡ false
          → MatchOption before (MatchOption after (IsLineWhole entry (contents old.output.inner) (contents new.output.inner))
          (λ error. IsLineCut entry (contents old.output.inner) (contents new.output.inner))) (λ error. new ≡ old)
      go None None fine still = whole
      go None (Some error) fine still = absurd cc
      go (Some error) after fine still = absurd cc
