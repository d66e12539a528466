use Rattle.std.proofs.Common.{refl}
use Rattle.opc_cli_questions.specs.Differences.{sections_shown}
use Rattle.opc_cli_questions.proofs.Differences.{sections_written}
use Rattle.opc_cli_questions.proofs.Parts.{on_ok}
use Rattle.opc_cli_questions.proofs.difference_printing.print_sections.Goals as goal

pub returns-clause-text : goal.returns-clause-text
returns-clause-text g c =
    let commands = c.in_ok-print_commands.ensures.text in
    on_ok c.print_ending.result (λ last. (
      sections_shown c.args.form c.args.compared.now c.args.rows commands.0,
      (commands.0, commands.1, refl),
      sections_written c.args.form c.args.compared.now c.args.rows commands.0 _ _ _ _ _ _ _ _ c.new-gains.ensures.more c.new-gains.ensures.less
          commands.2 c.in_ok-print_logons.ensures.text c.in_ok-print_consoles.ensures.text last,
    )) c.print_ending.ensures.text
