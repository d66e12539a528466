use Rattle.std.proofs.Common.{inr}
use Rattle.opc_cli_questions.proofs.Sheets.{of_file}
use Rattle.opc_cli_questions.proofs.sheet.answer_by.Goals as goal

pub returns : goal.returns
returns g c =
    let sheet = of_file g.W.Write.contents c.args.output.now c.print_file_sheet.new.output c.args.name.now _ _ _ c.print_file_sheet.result
    c.in_ok-file.ensures.bytes c.print_file_sheet.ensures in
    inr (_, c.in_ok-file.ensures.rows, sheet)
