use Rattle.std.proofs.Common.{ap, ◌∙◌}
use Rattle.std.specs.Prelude.{filter_map}
use Rattle.std.proofs.lemmas.Result.{IfOk-weaker}
use Rattle.opc_check_notes.specs.declared.numbered.NumberedRow.{NumberedRow}
use Rattle.opc_check_notes.specs.Preceding.{keyed}
use Rattle.opc_check_notes.proofs.Before.{all_keyed_of}
use Rattle.opc_check_notes.proofs.preceding.all_keyed.Goals as goal

pub returns-clause-keyed : goal.returns-clause-keyed
returns-clause-keyed c =
    IfOk-weaker c.keyed_among.result _ _
    (λ list is. is ∙ ap (filter_map (λ (at : NumberedRow). keyed at.row)) c.of.ensures ∙ all_keyed_of c.args.rows.now)
    c.keyed_among.ensures.keyed
