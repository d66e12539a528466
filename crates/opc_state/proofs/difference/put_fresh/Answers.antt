use Rattle.std.proofs.Common.{◌≡◌, ◌<◌, get_or, length, arith, sym, ap, ◌∙◌, find, not}
use Rattle.opc_state.specs.Difference.{as_it_was}
use Rattle.opc_state.proofs.Listed.{passed, failed}
use Rattle.opc_state.proofs.difference.put_fresh.Goals as goal
use Rattle.opc_state.proofs.difference.put_fresh.Goals.{then-not-is_as_it_was+in_ok-copied+in_ok-push, else-not-is_as_it_was}

pub loop-row-preserved : goal.loop-row-preserved
loop-row-preserved g c =
    let within : c.loop-row.row-index < length c.args.new.now = rw (← c.as_slice-row-items.ensures) (omega arith) in
    let is : c.row-item.result ≡ get_or c.args.new.now c.loop-row.row-index c.row-item.result = rw c.as_slice-row-items.ensures at c.row-item.is in
    elim c.if-not-is_as_it_was.branch [
      | then-not-is_as_it_was+in_ok-copied+in_ok-push w ↦ rw (w.edits-is, w.in_ok-push.ensures.items)
          (passed (λ r. not (as_it_was g.R.Member.is_same
          (find (λ q. g.R.Key.PartialEq.eq (g.R.Keyed.key_of q) (g.R.Keyed.key_of r)) c.args.old.now) r))
          g.R.Member.put _ _ c.args.new.now _ c.row-item.result within is c.loop-row.invariant
          (ap not (sym c.is_as_it_was.ensures ∙ w.if-not-is_as_it_was.true)) _ (w.put.ensures ∙ ap g.R.Member.put w.in_ok-copied.ensures))
      | else-not-is_as_it_was w ↦ rw w.edits-is
          (failed (λ r. not (as_it_was g.R.Member.is_same
          (find (λ q. g.R.Key.PartialEq.eq (g.R.Keyed.key_of q) (g.R.Keyed.key_of r)) c.args.old.now) r))
          g.R.Member.put _ _ c.args.new.now _ c.row-item.result within is c.loop-row.invariant
          (ap not (sym c.is_as_it_was.ensures ∙ w.if-not-is_as_it_was.false)))
    ]
