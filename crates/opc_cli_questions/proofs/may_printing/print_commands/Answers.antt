use Rattle.std.proofs.Common.{◌∙◌, ◌+◌, length, subst}
use Rattle.opc_cli_questions.specs.MayPrinted.{ArePlacesWritten}
use Rattle.opc_cli_questions.proofs.Parts.{on_ok}
use Rattle.opc_cli_questions.proofs.may_printing.print_commands.Goals as goal

pub returns-clause-text : goal.returns-clause-text
returns-clause-text g c =
    on_ok c.print_places.result
    (λ all. subst (λ patterns. ArePlacesWritten c.args.form c.args.allowed c.args.may.now (g.W.Write.contents c.args.output.now)
    (g.W.Write.contents c.print_places.new.output) (length patterns + 1)) (c.as_slice.ensures.value ∙ c.in-Ok.ensures.all) all)
    c.print_places.ensures.text
