use Rattle.std.proofs.Common.{◌∙◌, ap}
use Rattle.opc_answers_diff.specs.Members.{member_in}
use Rattle.opc_answers_diff.proofs.ById.{by_id_so}
use Rattle.opc_answers_diff.proofs.members.changes_of.Goals as goal

pub returns : goal.returns
returns c =
    by_id_so c.args.before.now.members c.args.after.now.members c.in_ok-old.old c.in_ok-new.new c.args.ids.now c.changes_by_id.result
    (λ id. c.in_ok-old.ensures id ∙ ap (λ ms. member_in ms id) c.as_slice.ensures)
    (λ id. c.in_ok-new.ensures id ∙ ap (λ ms. member_in ms id) c.as_slice-2.ensures) c.changes_by_id.ensures
