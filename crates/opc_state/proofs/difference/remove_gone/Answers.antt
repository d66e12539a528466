use Rattle.std.proofs.Common.{◌≡◌, ◌<◌, get_or, length, arith, sym, ◌∙◌, find}
use Rattle.std.specs.Option.{is_none}
use Rattle.opc_state.proofs.Listed.{passed, failed}
use Rattle.opc_state.proofs.difference.remove_gone.Goals as goal
use Rattle.opc_state.proofs.difference.remove_gone.Goals.{then-lacks+in_ok-push, else-lacks}

pub loop-row-preserved : goal.loop-row-preserved
loop-row-preserved g c =
    let within : c.loop-row.row-index < length c.args.old.now = rw (← c.as_slice-row-items.ensures) (omega arith) in
    let is : c.row-item.result ≡ get_or c.args.old.now c.loop-row.row-index c.row-item.result = rw c.as_slice-row-items.ensures at c.row-item.is in
    elim c.if-lacks.branch [
      | then-lacks+in_ok-push w ↦ rw (w.edits-is, w.in_ok-push.ensures.items)
          (passed (λ r. is_none (find (λ q. g.R.Key.PartialEq.eq (g.R.Keyed.key_of q) (g.R.Keyed.key_of r))
          c.args.new.now)) g.R.Member.removal _ _ c.args.old.now _ c.row-item.result within is c.loop-row.invariant
          (sym c.lacks.ensures ∙ w.if-lacks.true) _ w.removal.ensures)
      | else-lacks w ↦ rw w.edits-is
          (failed (λ r. is_none (find (λ q. g.R.Key.PartialEq.eq (g.R.Keyed.key_of q) (g.R.Keyed.key_of r))
          c.args.new.now)) g.R.Member.removal _ _ c.args.old.now _ c.row-item.result within is c.loop-row.invariant
          (sym c.lacks.ensures ∙ w.if-lacks.false))
    ]
