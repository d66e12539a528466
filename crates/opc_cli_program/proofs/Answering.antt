-- Lines that were answered over streams, by what is known of these.
use Rattle.std.proofs.Common.{◌∙◌, ℕ, List, Option, Some, None, Result, Ok, Err, IfErr, IfOk, MatchResult, OnErr, arith, length, subst, sym}
use Rattle.std.specs.Io.KnownBytes.{Appends, Keeps}
use Rattle.std.proofs.lemmas.List.{take_all}
use Rattle.opc_cli_script.specs.Running.{AppendsPrefix}
use Rattle.opc_state.specs.Meaning.{Meaning}
use Rattle.opc_machine.specs.declared.request.Answer.{Answer}
use Rattle.opc_machine.specs.declared.request.Request.{Request}
use Rattle.opc_cli_failures.specs.declared.status.Status.{Status}
use Rattle.opc_cli_script.specs.declared.fault.NowFault.{NowFault}
use Rattle.opc_cli_script.specs.Handlers.{AreSteps}
use Rattle.opc_cli_script.specs.Sessions.{IsCutSession, IsSession}
use Rattle.opc_cli_script.proofs.Viewing.{cut_viewed, dates_there, held_there, reads_there, says_there, session_viewed}
use Rattle.opc_cli_program.specs.Lines.{IsDated, IsLineRead, IsSaid, Streams, output_of}

module _ {D : Type 0} (view : D → Streams) (shows : ℕ → Type 0) {T : Type 0} (m : Meaning T) (handled : T → ℕ → Request → Answer → T → Type 0)
    (console : Option (List ℕ)) (old new : T) (first last : D) where
  pub viewed : (end : Result Status NowFault)
      → IfOk end (IsSession (reads_there view IsLineRead (IsDated shows) IsSaid output_of) (dates_there view IsLineRead (IsDated shows) IsSaid output_of)
      (says_there view IsLineRead (IsDated shows) IsSaid output_of) (held_there view IsLineRead (IsDated shows) IsSaid output_of) m handled console
      (AreSteps handled) old new first last)
      → IfErr end (IsCutSession (reads_there view IsLineRead (IsDated shows) IsSaid output_of) (dates_there view IsLineRead (IsDated shows) IsSaid output_of)
      (says_there view IsLineRead (IsDated shows) IsSaid output_of) (held_there view IsLineRead (IsDated shows) IsSaid output_of) m handled console
      (AreSteps handled) old new first last)
      → MatchResult end (IsSession IsLineRead (IsDated shows) IsSaid output_of m handled console (AreSteps handled) old new (view first) (view last))
      (IsCutSession IsLineRead (IsDated shows) IsSaid output_of m handled console (AreSteps handled) old new (view first) (view last))
  viewed (Ok status) session cut =
      session_viewed view IsLineRead (IsDated shows) IsSaid output_of console m handled (AreSteps handled) old new first last status session
  viewed (Err fault) session cut =
      cut_viewed view IsLineRead (IsDated shows) IsSaid output_of console m handled (AreSteps handled) old new first last fault cut

appends_kept : (a b c : Option (List ℕ)) (text : List ℕ) → Appends a b text → Keeps b c → Appends a c text
appends_kept None b c text h k = tt
appends_kept (Some xs) None c text h k = absurd h
appends_kept (Some xs) (Some ys) None text h k = absurd k
appends_kept (Some xs) (Some ys) (Some zs) text h k = k ∙ h

-- a text was written, and a failed flush took nothing of it
pub not_flushed : {A E : Type 0} (flushed : Result A E) (a b c : Option (List ℕ)) (text : List ℕ) → Appends a b text → Keeps b c
    → OnErr flushed (AppendsPrefix a c text)
not_flushed (Ok x) a b c text h k = tt
not_flushed (Err e) a b c text h k = record {
  len = length text;
  prefix = subst (Appends a c) (sym (take_all (length text) text (omega arith))) (appends_kept a b c text h k);
}
