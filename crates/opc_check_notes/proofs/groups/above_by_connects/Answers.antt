use Rattle.std.proofs.Common.{ℕ, List, ap, sym, ◌∙◌}
use Rattle.opc_check_notes.specs.First.{first_of}
use Rattle.opc_check_notes.specs.Notes.{group_above}
use Rattle.opc_check_notes.proofs.Earliest.{first_of-map}
use Rattle.opc_check_notes.proofs.groups.above_by_connects.Goals as goal

pub returns : goal.returns
returns c =
    c.first_above.ensures ∙ sym (first_of-map (group_above c.args.known.now c.args.row.now) (λ (p : List ℕ × List ℕ). p.1) c.groups_of.result.now)
    ∙ ap (first_of (group_above c.args.known.now c.args.row.now)) c.groups_of.ensures
