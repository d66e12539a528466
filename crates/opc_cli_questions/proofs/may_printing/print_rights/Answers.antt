use Rattle.std.proofs.Common.{refl}
use Rattle.std.proofs.KnownBytes.{Appends-trans}
use Rattle.opc_cli_questions.specs.MayPrinted.{rights_shown}
use Rattle.opc_cli_questions.proofs.Parts.{on_ok}
use Rattle.opc_cli_questions.proofs.may_printing.print_rights.Goals as goal

pub returns-clause-text : goal.returns-clause-text
returns-clause-text g c =
    let places = c.in_ok-print_commands.ensures.text in
    on_ok c.print_changes.result (λ changes. (
      rights_shown c.args.form c.args.allowed c.args.may.now places.found,
      record { found = places.found; each = places.each; are = places.are; is = refl },
      Appends-trans _ _ _ _ _ c.in_ok-print_logons.ensures.text (Appends-trans _ _ _ _ _ places.printed changes),
    )) c.print_changes.ensures.text
