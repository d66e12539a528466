use Rattle.std.proofs.Common.{sym, ◌∙◌}
use Rattle.opc_policy_members.specs.Members.{groups_of}
use Rattle.opc_gate_rulings.proofs.Connected.{connected_is, kept_again, none_listed, one_listed}
use Rattle.opc_gate_rulings.proofs.held.listed_groups_of.Goals.{then-branch+in_ok-group_of+in_ok-push, else-branch}
use Rattle.opc_gate_rulings.proofs.held.listed_groups_of.Goals as goal

pub loop-entry-preserved : goal.loop-entry-preserved
loop-entry-preserved g c =
    let before = c.loop-entry.invariant in
    let kept = c.in_ok-is_connected.ensures.kept in (
      kept_again _ _ _ _ before.0 kept,
      λ sure s represents.
          let so_far = before.1 (kept.sure sure) s represents in
          let connected = rw c.text.ensures.text at (c.in_ok-is_connected.ensures.answers sure s (before.0.same (kept.sure sure) s represents)) in
          let member = sym (connected ∙ connected_is s.policy c.args.user.now.id c.entry-item.result.id) in
          elim c.if-branch.branch [
            | then-branch+in_ok-group_of+in_ok-push w ↦
                rw (w.groups-is, w.in_ok-push.ensures.items, w.in_ok-group_of.ensures)
                (one_listed (groups_of s.policy.connects c.args.user.now.id) c.args.entries.now c.loop-entry.entry-index
                c.entry-item.result c.loop-entry.groups.items c.loop-entry-test.true c.entry-item.is so_far
                (member ∙ w.if-branch.true))
            | else-branch w ↦
                rw w.groups-is
                (none_listed (groups_of s.policy.connects c.args.user.now.id) c.args.entries.now
                c.loop-entry.entry-index c.entry-item.result c.loop-entry.groups.items c.loop-entry-test.true
                c.entry-item.is so_far (member ∙ w.if-branch.false))
          ],
    )
