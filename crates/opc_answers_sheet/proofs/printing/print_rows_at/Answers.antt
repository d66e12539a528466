use Rattle.std.proofs.Common.{subst, sym}
use Rattle.opc_answers_sheet.specs.Commands.{AreRowsAt}
use Rattle.opc_answers_sheet.proofs.Parts.{on_ok}
use Rattle.opc_answers_sheet.proofs.printing.print_rows_at.Goals as goal

pub returns-clause-text : goal.returns-clause-text
returns-clause-text g c =
    on_ok c.print.result (λ printed. record {
      text = c.as_str.result.now;
      rows = subst (AreRowsAt c.args.room.now.policy c.args.room.now.board c.args.place) (sym c.as_str.ensures.value) c.in-Ok.ensures;
      printed = printed;
    }) c.print.ensures.text
