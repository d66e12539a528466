use Rattle.std.proofs.Common.{arith, inl, length, refl}
use Rattle.opc_cli_questions.specs.Differences.{IsPairListed}
use Rattle.opc_cli_questions.proofs.Differences.{no_place, place_last, place_more, places_passed}
use Rattle.opc_cli_questions.proofs.Parts.{on_ok}
use Rattle.opc_cli_questions.proofs.difference_printing.print_pairs.Goals as goal

pub loop-other_at-init : goal.loop-other_at-init
loop-other_at-init g c =
    let within = c.next_at-other_at.ensures.within in (
      within.1,
      places_passed (IsPairListed c.args.form c.args.compared.now c.args.at) _ _ _ _ 0 c.next_at-other_at.result
          (no_place (IsPairListed c.args.form c.args.compared.now c.args.at) (g.W.Write.contents c.args.output.now) c.args.gains.now) within.0
          (λ place low high. inl (inl (c.next_at-other_at.ensures.none place low high), refl)),
    )

pub loop-other_at-preserved : goal.loop-other_at-preserved
loop-other_at-preserved g c =
    let within = c.next_at-other_at-in-loop-other_at.ensures.within in (
      within.1,
      places_passed (IsPairListed c.args.form c.args.compared.now c.args.at) _ _ _ _ _ c.next_at-other_at-in-loop-other_at.result
          (place_more (IsPairListed c.args.form c.args.compared.now c.args.at) _ _ _ _ _ _ c.loop-other_at.other_at
          c.loop-other_at.invariant.1 c.in_ok-print_pair.ensures.text) within.0
          (λ place low high. inl (inl (c.next_at-other_at-in-loop-other_at.ensures.none place low high), refl)),
    )

pub returns-clause-text : goal.returns-clause-text
returns-clause-text g c =
    let within = c.loop-other_at.invariant.0 in
    on_ok c.print_pair-2.result
    (λ last. place_last (IsPairListed c.args.form c.args.compared.now c.args.at) _ _ _ _ _ _ c.loop-other_at.other_at
    c.len-end.result (length c.args.compared.now.others.items) (omega (arith, within)) (omega arith)
    c.loop-other_at.invariant.1 last)
    c.print_pair-2.ensures.text
