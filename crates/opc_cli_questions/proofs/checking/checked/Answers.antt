use Rattle.std.proofs.Common.{subst, sym}
use Rattle.opc_cli_questions.proofs.Bytes.{is_answered}
use Rattle.opc_cli_questions.specs.Checks.{AreFirst}
use Rattle.opc_cli_questions.proofs.checking.checked.Goals as goal

pub returns : goal.returns
returns g c =
    is_answered g.W.Write.contents _ _ _ _ _ _ _ _ c.print.result
    (subst (AreFirst _) (sym c.deref.ensures.value) c.in_ok-bytes.ensures.bytes)
    c.in_ok-answer.ensures.answer c.print.ensures.text c.print.ensures.status c.print.ensures.fault
