use Rattle.std.proofs.Common.{◌≡◌, ◌∙◌, ap, Ok, true, false}
use Rattle.opc_policy_witness.proofs.Products.{common_lost, common_some, fits_vec}
use Rattle.opc_policy_witness.proofs.common.add_common.Goals.{then-branch+in_ok-push, else-branch}
use Rattle.opc_policy_witness.proofs.common.add_common.Goals as goal

pub loop-other-preserved : goal.loop-other-preserved
loop-other-preserved c = λ s.
    let all = c.loop-other.all.items in
    let others = c.args.others.now in
    let mask = c.args.mask.now in
    let i = c.loop-other.other-index in
    let before = fits_vec c.args.all.now.items s in
    elim c.if-branch.branch [
      | then-branch+in_ok-push w ↦
          (let was : c.push_common.result ≡ Ok true = c.in_ok-push_common.was ∙ ap Ok w.if-branch.true in
          rw w.all-is (common_some others all w.push.new.self.items mask c.as_slice.result.now c.new-common.result.items i
          c.other-item.result c.push_common.new.common s before c.loop-other-test.true c.other-item.is c.as_slice.ensures.value
          c.new-common.ensures.items (c.push_common.ensures.some was) w.in_ok-push.ensures.items (c.loop-other.invariant s)))
      | else-branch w ↦
          (let was : c.push_common.result ≡ Ok false = c.in_ok-push_common.was ∙ ap Ok w.if-branch.false in
          rw w.all-is (common_lost others all mask c.as_slice.result.now i c.other-item.result s before c.loop-other-test.true
          c.other-item.is c.as_slice.ensures.value (c.push_common.ensures.none was) (c.loop-other.invariant s)))
    ]
