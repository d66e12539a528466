use Rattle.std.proofs.Common.{subst}
use Rattle.std.specs.Prelude.{string_bytes}
use Rattle.std.specs.Io.KnownBytes.{Appends}
use Rattle.opc_cli_questions.proofs.Parts.{on_ok}
use Rattle.opc_cli_questions.proofs.difference_printing.print_pair.Goals as goal

pub returns-clause-text : goal.returns-clause-text
returns-clause-text g c =
    let shown = c.in-Ok.ensures in
    on_ok c.print_text.result (λ printed. (
      (string_bytes c.in-Ok.text, shown.0),
      shown.1,
      record {
        printed = subst (Appends (g.W.Write.contents c.args.output.now) (g.W.Write.contents c.print_text.new.output))
            c.as_str.ensures.value printed;
        counted = shown.2;
      },
    )) c.print_text.ensures.text
