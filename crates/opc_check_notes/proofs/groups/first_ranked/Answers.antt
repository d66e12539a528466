use Rattle.std.proofs.Common.{ℕ, List, ap, arith, ◌∙◌}
use Rattle.opc_check_notes.specs.declared.entries.EntryPlace.{EntryPlace}
use Rattle.opc_check_notes.specs.Ranked.{earlier}
use Rattle.opc_check_notes.proofs.Earliest.{ranked_step}
use Rattle.opc_check_notes.proofs.groups.first_ranked.Goals as goal

pub loop-pair-preserved : goal.loop-pair-preserved
loop-pair-preserved c =
    ranked_step c.args.known.now c.args.row.now c.args.user.now (λ (p : EntryPlace × List ℕ). p.1) c.args.groups.now c.loop-pair.pair-index
    c.pair-item.result _ _ (omega arith) c.pair-item.is c.loop-pair.invariant
    (c.earlier-first.ensures ∙ ap (earlier c.loop-pair.first) c.ranked_by.ensures)
