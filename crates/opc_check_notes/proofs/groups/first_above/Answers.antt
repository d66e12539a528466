use Rattle.std.proofs.Common.{ℕ, List, arith, sym, ◌∙◌}
use Rattle.opc_check_notes.specs.Notes.{group_above}
use Rattle.opc_check_notes.proofs.Steps.{first_found, none_more}
use Rattle.opc_check_notes.proofs.groups.first_above.Goals as goal

pub returns-in-Some : goal.returns-in-Some
returns-in-Some c =
    sym (first_found (λ (p : List ℕ × List ℕ). group_above c.args.known.now c.args.row.now p.1) c.args.groups.now c.loop-pair.pair-index
    c.pair-item.result _ (omega arith) c.pair-item.is c.loop-pair.invariant (sym c.group_above.ensures ∙ c.in-Some.is))

pub loop-pair-preserved : goal.loop-pair-preserved
loop-pair-preserved c =
    none_more (λ (p : List ℕ × List ℕ). group_above c.args.known.now c.args.row.now p.1) c.args.groups.now c.loop-pair.pair-index
    c.pair-item.result (omega arith) c.pair-item.is c.loop-pair.invariant (sym c.group_above.ensures ∙ c.in-None.is)
