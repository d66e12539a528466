use Rattle.std.proofs.Common.{subst}
use Rattle.std.specs.Io.KnownBytes.{Appends}
use Rattle.std.proofs.KnownBytes.{Appends-trans}
use Rattle.opc_answers_sheet.specs.Page.{beginning_text}
use Rattle.opc_answers_sheet.proofs.Parts.{on_ok}
use Rattle.opc_answers_sheet.proofs.printing.print_beginning.Goals as goal

pub returns-clause-text : goal.returns-clause-text
unfolding beginning_text
returns-clause-text g c =
    on_ok c.print.result
    (λ last. Appends-trans _ _ _ _ _ (Appends-trans _ _ _ _ _ c.in_ok-print_head.ensures.text c.in_ok-print_notes.ensures.text)
    (subst (Appends _ _) c.commands_head.ensures last))
    c.print.ensures.text
