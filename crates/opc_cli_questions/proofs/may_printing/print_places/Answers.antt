use Rattle.std.proofs.Common.{arith, length, refl}
use Rattle.opc_cli_questions.proofs.Parts.{on_ok}
use Rattle.opc_cli_questions.proofs.Places.{no_place, places_last, places_more}
use Rattle.opc_cli_questions.proofs.may_printing.print_places.Goals as goal

pub loop-place-init : goal.loop-place-init
loop-place-init g c = no_place c.args.form c.args.allowed c.args.may.now (g.W.Write.contents c.args.output.now)

pub loop-place-preserved : goal.loop-place-preserved
loop-place-preserved g c =
    places_more c.args.form c.args.allowed c.args.may.now _ _ _ c.loop-place.place c.loop-place.invariant c.in_ok-print_place.ensures.text

pub returns-clause-text : goal.returns-clause-text
returns-clause-text g c =
    on_ok c.print_place-2.result
    (λ last. places_last c.args.form c.args.allowed c.args.may.now _ _ _ c.loop-place.place (length c.args.patterns.now) (length c.args.patterns.now)
    (omega arith) refl c.loop-place.invariant last)
    c.print_place-2.ensures.text
