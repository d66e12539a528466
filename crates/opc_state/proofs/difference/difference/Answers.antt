use Rattle.std.proofs.Common.{◌≡◌, ap, ap₂, sym, ◌∙◌}
use Rattle.opc_state.specs.Changes.{all_edited}
use Rattle.opc_state.specs.Difference.{board_difference}
use Rattle.opc_state.proofs.Parts.{footprints_become, footprints_stay}
use Rattle.opc_state.proofs.difference.difference.Goals as goal

pub returns-clause-becomes : goal.returns-clause-becomes
returns-clause-becomes c = λ s whole footprints.
    let is : c.in_ok-edits.edits.items ≡ board_difference c.args.old.now c.args.new.now =
    c.in_ok-edits.ensures ∙ ap₂ board_difference c.rows.ensures.rows c.rows-2.ensures.rows in
    ap (λ edits. all_edited edits s) is ∙ footprints_become c.args.old.now c.args.new.now s whole footprints

pub returns-clause-idle : goal.returns-clause-idle
returns-clause-idle c = λ s whole footprints stays.
    let is : c.in_ok-edits.edits.items ≡ board_difference c.args.old.now c.args.new.now =
    c.in_ok-edits.ensures ∙ ap₂ board_difference c.rows.ensures.rows c.rows-2.ensures.rows in
    is ∙ footprints_stay c.args.old.now c.args.new.now s whole footprints (sym (ap (λ edits. all_edited edits s) is) ∙ stays)
