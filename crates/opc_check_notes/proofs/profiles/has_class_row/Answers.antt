use Rattle.std.proofs.Common.{ap, ◌∙◌}
use Rattle.std.specs.List.{list_any}
use Rattle.opc_check_notes.specs.declared.numbered.NumberedRow.{NumberedRow}
use Rattle.opc_check_notes.specs.Notes.{is_class_row}
use Rattle.opc_check_notes.proofs.OfCode.{class_rows}
use Rattle.opc_check_notes.proofs.profiles.has_class_row.Goals as goal

pub returns : goal.returns
returns c =
    c.any_class_row.ensures ∙ ap (list_any (λ (at : NumberedRow). is_class_row c.args.class at.row)) (rw c.rows.ensures at c.of.ensures)
    ∙ class_rows c.args.known.now c.args.class
