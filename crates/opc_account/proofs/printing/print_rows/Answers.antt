use Rattle.std.proofs.Common.{arith}
use Rattle.opc_account.proofs.Pages.{last_shown, more_shown}
use Rattle.opc_account.proofs.printing.print_rows.Goals as goal

pub returns-then-page-clause-shows : goal.returns-then-page-clause-shows
returns-then-page-clause-shows g c =
    last_shown g.T.Tables.meaning c.args.query.now c.args.first c.loop-left.next c.loop-left.left c.page_rows-most.result
    c.args.tables.now c.loop-left.tables c.print_page.new.tables (g.W.Write.contents c.args.output.now)
    (g.W.Write.contents c.loop-left.output) (g.W.Write.contents c.print_page.new.output) c.in_ok-page.page
    c.loop-left.invariant c.in_ok-page.ensures.shows c.if-page.true

pub loop-left-preserved : goal.loop-left-preserved
loop-left-preserved g c =
    more_shown g.T.Tables.meaning c.args.query.now c.args.first c.loop-left.next c.loop-left.left c.page_rows-most.result
    c.args.tables.now c.loop-left.tables c.print_page.new.tables (g.W.Write.contents c.args.output.now)
    (g.W.Write.contents c.loop-left.output) (g.W.Write.contents c.print_page.new.output) c.in_ok-page.page
    c.loop-left.invariant c.in_ok-page.ensures.shows c.in-Some.next (omega (arith, c.in-Some.ensures))
