use Rattle.opc_io.proofs.Writing.{appends-more}
use Rattle.opc_cli_failures.proofs.Printed.{not_failed}
use Rattle.opc_cli_words.specs.Mistakes.{mistake_line}
use Rattle.opc_cli_words.proofs.words.report_mistake.Goals as goal

pub returns : goal.returns
returns g c = λ fine.
    let noted = c.note_value.ensures.noted fine in
    let line = not_failed c.print_mistake.result _ _ c.print_mistake.ensures.failed c.print_mistake.ensures.text
    (c.note_value.ensures.kept fine) in
    record {
      more = noted.0;
      text = appends-more _ _ _ (mistake_line c.args.command.now c.args.mistake) noted.0 line noted.1;
    }
