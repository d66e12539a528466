use Rattle.std.proofs.Common.{◌++◌, refl}
use Rattle.std.proofs.KnownBytes.{Appends-trans}
use Rattle.opc_cli_questions.specs.MayPrinted.{user_shown}
use Rattle.opc_cli_questions.proofs.Parts.{on_ok}
use Rattle.opc_cli_questions.proofs.may_printing.print_may.Goals as goal

pub returns-then-is_revoked-clause-text : goal.returns-then-is_revoked-clause-text
returns-then-is_revoked-clause-text g c =
    rw c.if-is_revoked.true (user_shown c.args.form c.args.may.now.member, refl, c.in_ok-print_user.ensures.text)

pub returns-clause-text : goal.returns-clause-text
returns-clause-text g c =
    on_ok c.print_rights.result (λ rest. rw c.if-is_revoked.false (
      user_shown c.args.form c.args.may.now.member ++ rest.0,
      (rest.0, rest.1, refl),
      Appends-trans _ _ _ _ _ c.in_ok-print_user.ensures.text rest.2,
    )) c.print_rights.ensures.text
