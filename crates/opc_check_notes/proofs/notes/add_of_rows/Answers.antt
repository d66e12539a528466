use Rattle.std.proofs.Common.{◌++◌, ap, ◌∙◌}
use Rattle.std.specs.Prelude.{filter_map}
use Rattle.opc_check_notes.specs.Kinds.{of_kind}
use Rattle.opc_check_notes.specs.Notes.{note_at}
use Rattle.opc_check_notes.proofs.OfCode.{notes_about}
use Rattle.opc_check_notes.proofs.notes.add_of_rows.Goals as goal

pub returns : goal.returns
returns c =
    c.in_ok-add_at_rows.ensures
    ∙ ap (λ l. c.args.notes.now ++ l)
    (ap (filter_map (note_at c.args.known.now c.args.code))
    (rw c.rows.ensures at c.of.ensures ∙ ap (of_kind c.args.known.now) c.about.ensures)
    ∙ notes_about c.args.known.now c.args.code)
