-- Runs with a log, by how they end.
use Rattle.std.proofs.Common.{◌≡◌, ℕ, List, Option, Some, None, Result, Ok, Err, sym, subst}
use Rattle.std.specs.Prelude.{MatchResult}
use Rattle.std.specs.Borrow.{Bor}
use Rattle.std.specs.declared.io.Error.{Error as IoError}
use Rattle.opc_state.specs.Meaning.{Meaning}
use Rattle.opc_machine.specs.declared.request.Answer.{Answer}
use Rattle.opc_machine.specs.declared.request.Request.{Request}
use Rattle.opc_cli_failures.specs.declared.status.Status.{Status}
use Rattle.opc_cli_failures.specs.declared.failure.Failure.{Failure}
use Rattle.opc_cli_failures.specs.Statuses.{IsFailure}
use Rattle.opc_cli_failures.proofs.Faults.{streams_are_failures}
use Rattle.opc_cli_log.specs.declared.log.RunLog.{RunLog}
use Rattle.opc_cli_program.specs.Logging.{IsLogAt, IsLoggedEnd, IsRunWithLog}

-- the log was opened, if the run did not end by its opening
pub log_opened : {L : Type 0} (P : Option (RunLog L) → Type 0) (Q : Failure → Type 0) (log : Result (Option (RunLog L)) Failure)
    → MatchResult log P Q → ((failure : Failure) → Q failure → ⊥) → (found : Option (RunLog L)) × P found
log_opened P Q (Ok log) run none = (log, run)
log_opened P Q (Err failure) ended none = absurd (none failure ended)

-- or if it ended by what is no failure of an allocation or a device
pub log_opened_again : {L : Type 0} (opens : List ℕ → L → Type 0) (P : Option (RunLog L) → Type 0) (Q : Failure → Type 0)
    (path : Option (Bor (List ℕ))) (log : Result (Option (RunLog L)) Failure) (failure : Failure) → (IsFailure failure.fault → ⊥)
    → IsLogAt opens path log → MatchResult log P Q → ((why : Failure) → Q why → failure ≡ why) → (found : Option (RunLog L)) × P found
log_opened_again opens P Q path (Ok log) failure reported opened run same = (log, run)
log_opened_again opens P Q None (Err why) failure reported opened ended same = absurd (let is = opened in cc)
log_opened_again opens P Q (Some path) (Err why) failure reported opened ended same =
    absurd (reported (subst (λ (f : Failure). IsFailure f.fault) (sym (same why ended)) (subst IsFailure (sym opened.1.0) (streams_are_failures _))))

module _ {T L R : Type 0} (m : Meaning T) (logs : L → Option (List ℕ)) (log : Option (RunLog L))
    (is : ((old new : T) → List (ℕ × Request) → List Answer → Type 0) → Result Status Failure → Type 0) where
  -- a run that is done has a log that did not fail, or none
  pub done_with_log : (status : Status) → IsRunWithLog m logs log is (Ok status)
      → ((told : (old new : T) → List (ℕ × Request) → List Answer → Type 0) → is told (Ok status) → R) → R
  done_with_log status run f = go log run
    where
      ended : (told : (old new : T) → List (ℕ × Request) → List Answer → Type 0) (ran : Result Status Failure) (fault : Option IoError)
          → is told ran → IsLoggedEnd ran fault (Ok status) → is told (Ok status)
      ended told (Ok other) None run ends = subst (is told) (sym ends) run
      ended told (Ok other) (Some error) run ends = absurd ends
      ended told (Err failure) fault run ends = absurd cc

      go : (log : Option (RunLog L)) → IsRunWithLog m logs log is (Ok status) → R
      go None run = f _ run
      go (Some log) run = f _ (ended _ run.1 run.0.fault run.2 run.3)

  -- and one that ended by what is no failure of an allocation or a device ended so by itself
  pub failed_with_log : (failure : Failure) → (IsFailure failure.fault → ⊥) → IsRunWithLog m logs log is (Err failure)
      → ((told : (old new : T) → List (ℕ × Request) → List Answer → Type 0) → is told (Err failure) → R) → R
  failed_with_log failure reported run f = go log run
    where
      ended : (told : (old new : T) → List (ℕ × Request) → List Answer → Type 0) (ran : Result Status Failure) (fault : Option IoError)
          → is told ran → IsLoggedEnd ran fault (Err failure) → is told (Err failure)
      ended told (Ok other) None run ends = absurd cc
      ended told (Ok other) (Some error) run ends = absurd (reported (subst IsFailure (sym ends.0) (streams_are_failures _)))
      ended told (Err why) fault run ends = subst (is told) (sym ends) run

      go : (log : Option (RunLog L)) → IsRunWithLog m logs log is (Err failure) → R
      go None run = f _ run
      go (Some log) run = f _ (ended _ run.1 run.0.fault run.2 run.3)
