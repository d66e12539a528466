use Rattle.std.proofs.Common.{arith, ap, ◌∙◌}
use Rattle.std.specs.Prelude.{if◌then◌else◌}
use Rattle.std.specs.BTreeSet.{insert_key}
use Rattle.opc_policy_members.specs.Members.{name_cmp}
use Rattle.opc_answers_diff.specs.Gains.{is_loss}
use Rattle.opc_answers_diff.proofs.Gained.{those_more}
use Rattle.opc_answers_diff.proofs.gains.add_less.Goals as goal

pub loop-change-preserved : goal.loop-change-preserved
loop-change-preserved c =
    those_more is_loss c.args.changes.now c.loop-change.change-index c.change-item.result _ _ _ (omega arith) c.change-item.is
    c.loop-change.invariant
    (c.in_ok-add_if.ensures ∙ ap (λ b. if b then insert_key name_cmp c.loop-change.ids.keys c.change-item.result.id else c.loop-change.ids.keys)
    c.is_loss.ensures)
