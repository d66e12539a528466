use Rattle.std.proofs.Common.{◌∙◌}
use Rattle.opc_answers_diff.proofs.ById.{changed_so}
use Rattle.opc_answers_diff.proofs.members.changed_of_both.Goals as goal

pub returns : goal.returns
returns c =
    changed_so c.args.before.now c.args.after.now c.args.members.now c.as_slice.result.now c.changes_of.result c.requires
    (c.as_slice.ensures.value ∙ c.in_ok-ids.ensures) c.changes_of.ensures
