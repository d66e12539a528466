use Rattle.std.proofs.Common.{◌∙◌, ap, subst}
use Rattle.opc_board.specs.declared.board.BoardRows.{BoardRows}
use Rattle.opc_answers_diff.specs.Consoles.{names_of_both}
use Rattle.opc_cli_questions.specs.Differences.{IsListed, logons_listed}
use Rattle.opc_cli_questions.proofs.Parts.{on_ok}
use Rattle.opc_cli_questions.proofs.difference_printing.print_logons.Goals as goal

pub returns-clause-text : goal.returns-clause-text
returns-clause-text g c =
    let both = c.args.compared.now in
    let old = c.as_slice.ensures ∙ ap (λ (b : BoardRows). b.consoles) c.rows-old.ensures.rows in
    let new = c.as_slice-2.ensures ∙ ap (λ (b : BoardRows). b.consoles) c.rows-new.ensures.rows in
    let names = c.as_slice-3.ensures.value ∙ c.in-Ok.ensures ∙ ap (λ l. names_of_both l c.as_slice-2.result.now) old
    ∙ ap (names_of_both both.before.board.consoles) new in
    on_ok c.print_logons_at.result
    (λ listed. subst (λ l. IsListed (g.W.Write.contents c.args.output.now) (g.W.Write.contents c.print_logons_at.new.output)
    c.args.gains.now c.print_logons_at.new.gains (logons_listed c.args.form both l)) names listed)
    c.print_logons_at.ensures.text
