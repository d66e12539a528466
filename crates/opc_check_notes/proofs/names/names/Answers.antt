use Rattle.std.proofs.Common.{ap, ◌∙◌}
use Rattle.std.specs.Prelude.{filter_map}
use Rattle.opc_check_notes.specs.declared.numbered.NumberedRow.{NumberedRow}
use Rattle.opc_check_notes.specs.Kinds.{of_kind}
use Rattle.opc_check_notes.specs.Named.{named}
use Rattle.opc_check_notes.proofs.Listing.{sorted_names}
use Rattle.opc_check_notes.proofs.OfKind.{named_of}
use Rattle.opc_check_notes.proofs.names.names.Goals as goal

pub returns : goal.returns
returns c = λ name.
    sorted_names (λ (at : NumberedRow). named c.args.given at.row) c.args.rows.now _ _
    (c.in_ok-sorted.ensures
    ∙ ap (filter_map (λ (at : NumberedRow). named c.args.given at.row)) (c.of.ensures ∙ ap (of_kind c.args.rows.now) c.giving.ensures)
    ∙ named_of c.args.rows.now c.args.given)
    c.sort.ensures.permutation name
