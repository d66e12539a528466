use Rattle.std.proofs.Common.{ap, ◌∙◌}
use Rattle.std.specs.Prelude.{filter_map}
use Rattle.std.proofs.lemmas.Result.{IfOk-weaker}
use Rattle.opc_check_notes.specs.declared.numbered.NumberedRow.{NumberedRow}
use Rattle.opc_check_notes.specs.Connects.{pair}
use Rattle.opc_check_notes.proofs.OfKind.{pairs_of}
use Rattle.opc_check_notes.proofs.connects.pairs.Goals as goal

pub returns : goal.returns
returns c =
    IfOk-weaker c.pairs_among.result _ _
    (λ list is. is ∙ ap (filter_map (λ (at : NumberedRow). pair c.args.side at.row)) c.of.ensures ∙ pairs_of c.args.rows.now c.args.side)
    c.pairs_among.ensures
