use Rattle.std.proofs.Common.{ap, ◌∙◌}
use Rattle.std.specs.Prelude.{filter_map}
use Rattle.std.proofs.lemmas.Result.{IfOk-weaker}
use Rattle.opc_check_notes.specs.declared.numbered.NumberedRow.{NumberedRow}
use Rattle.opc_import.specs.declared.kind.Kind.TheVariants as kind
use Rattle.opc_check_notes.specs.Entries.{placed_by}
use Rattle.opc_check_notes.specs.Kinds.{of_kind}
use Rattle.opc_check_notes.proofs.OfKind.{placed_of}
use Rattle.opc_check_notes.proofs.Placing.{placed_so}
use Rattle.opc_check_notes.proofs.entries.all_placed.Goals as goal

pub returns : goal.returns
returns c =
    IfOk-weaker c.placed_among.result _ _
    (λ list is. is ∙ ap (filter_map (λ (at : NumberedRow). placed_by c.args.members.now at.row)) c.of.ensures
    ∙ placed_so c.args.rows.now c.args.members.now c.requires (of_kind c.args.rows.now kind.Permit) ∙ placed_of c.args.rows.now) c.placed_among.ensures
