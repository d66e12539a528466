use Rattle.std.proofs.Common.{subst}
use Rattle.std.specs.Io.KnownBytes.{Appends}
use Rattle.std.proofs.KnownBytes.{Appends-trans}
use Rattle.opc_answers_sheet.specs.Page.{rest_text}
use Rattle.opc_answers_sheet.proofs.Parts.{on_ok}
use Rattle.opc_answers_sheet.proofs.printing.print_rest.Goals as goal

pub returns-clause-text : goal.returns-clause-text
unfolding rest_text
returns-clause-text g c =
    let first = subst (Appends _ _) c.table_end.ensures c.in_ok-print.ensures.text in
    let head = subst (Appends _ _) c.consoles_head.ensures c.in_ok-print-2.ensures.text in
    let last = subst (Appends _ _) c.table_end-2.ensures c.in_ok-print-3.ensures.text in
    let consoles = Appends-trans _ _ _ _ _ (Appends-trans _ _ _ _ _ first head) c.in_ok-print_consoles.ensures.text in
    on_ok c.print_ending.result (λ ending. Appends-trans _ _ _ _ _ (Appends-trans _ _ _ _ _ consoles last) ending) c.print_ending.ensures.text
