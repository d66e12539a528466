use Rattle.opc_answers_sheet.proofs.Parts.{on_ok, sheet_so}
use Rattle.opc_answers_sheet.proofs.printing.print_sheet.Goals as goal

pub returns-clause-text : goal.returns-clause-text
returns-clause-text g c =
    on_ok c.print_tables.result (λ tables. sheet_so c.args.name.now c.args.digest.now c.args.rows.now c.args.room.now.policy c.args.room.now.board _ _ _
    c.in_ok-print_beginning.ensures.text tables) c.print_tables.ensures.text
