use Rattle.std.proofs.Common.{◌∙◌, arith, get_or, refl, sym}
use Rattle.opc_import.specs.CsvBytes.{state_of}
use Rattle.opc_check.proofs.Keeping.{all_kept, byte_kept, byte_left}
use Rattle.opc_check.proofs.excess.keep.Goals.{then-is_kept+in_ok-push, else-is_kept}
use Rattle.opc_check.proofs.excess.keep.Goals as goal

pub loop-byte-preserved : goal.loop-byte-preserved
loop-byte-preserved c =
    let s = state_of c.loop-byte.place in
    elim c.if-is_kept.branch [
      | then-is_kept+in_ok-push w ↦ rw (c.ended_after-ended.ensures, c.step-next.ensures.place, c.step-next.ensures.end, w.bytes-is, w.in_ok-push.ensures.items)
          (byte_kept _ _ c.args.text.now s c.loop-byte.ended c.loop-byte.byte-index (get_or c.args.text.now c.loop-byte.byte-index 0) (omega arith) refl
          c.loop-byte.invariant (rw c.step-next.ensures.end at (sym c.is_kept.ensures ∙ w.if-is_kept.true)))
      | else-is_kept w ↦ rw (c.ended_after-ended.ensures, c.step-next.ensures.place, c.step-next.ensures.end, w.bytes-is)
          (byte_left _ _ c.args.text.now s c.loop-byte.ended c.loop-byte.byte-index (get_or c.args.text.now c.loop-byte.byte-index 0) (omega arith) refl
          c.loop-byte.invariant (rw c.step-next.ensures.end at (sym c.is_kept.ensures ∙ w.if-is_kept.false)))
    ]

pub returns : goal.returns
returns c = all_kept _ _ c.args.text.now (state_of c.loop-byte.place) c.loop-byte.ended c.loop-byte.byte-index (omega arith) c.loop-byte.invariant
