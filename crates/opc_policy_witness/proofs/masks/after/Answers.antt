use Rattle.std.proofs.Common.{ℕ, List, [], Option, Bor}
use Rattle.opc_policy_witness.proofs.Between.{step_some, step_none}
use Rattle.opc_policy_witness.proofs.masks.after.Goals.{in-Some+in_ok-push, in_default}
use Rattle.opc_policy_witness.proofs.masks.after.Goals as goal

pub loop-mask-preserved : goal.loop-mask-preserved
loop-mask-preserved c =
    let masks = c.args.masks.now in
    let i = c.loop-mask.mask-index in
    let left = c.loop-mask.left.items in
    let none : Bor (List (Option ℕ)) = record { ref_ptr = (0, 0); now = [] } in
    elim c.match-left_after.branch [
      | in-Some+in_ok-push w ↦
          rw w.left-is (step_some c.args.character masks left w.push.new.self.items i none w.in-Some.rest
          c.loop-mask-test.true w.in-Some.ensures c.loop-mask.invariant w.in_ok-push.ensures.items)
      | in_default w ↦
          rw w.left-is (step_none c.args.character masks left i none c.loop-mask-test.true w.in_default.ensures
          c.loop-mask.invariant)
    ]
