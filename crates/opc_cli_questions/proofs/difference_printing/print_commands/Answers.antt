use Rattle.std.proofs.Common.{arith, length}
use Rattle.opc_cli_questions.specs.Differences.{ArePairsListed}
use Rattle.opc_cli_questions.proofs.Differences.{no_place, place_last, place_more}
use Rattle.opc_cli_questions.proofs.Parts.{on_ok}
use Rattle.opc_cli_questions.proofs.difference_printing.print_commands.Goals as goal

pub loop-at-init : goal.loop-at-init
loop-at-init g c = no_place (ArePairsListed c.args.form c.args.compared.now) (g.W.Write.contents c.args.output.now) c.args.gains.now

pub loop-at-preserved : goal.loop-at-preserved
loop-at-preserved g c =
    place_more (ArePairsListed c.args.form c.args.compared.now) _ _ _ _ _ _ c.loop-at.at c.loop-at.invariant c.in_ok-print_pairs.ensures.text

pub returns-clause-text : goal.returns-clause-text
returns-clause-text g c =
    on_ok c.print_pairs-2.result
    (λ last. place_last (ArePairsListed c.args.form c.args.compared.now) _ _ _ _ _ _ c.loop-at.at
    c.len-end.result (length c.args.compared.now.patterns.items) (omega arith) (omega arith) c.loop-at.invariant last)
    c.print_pairs-2.ensures.text
