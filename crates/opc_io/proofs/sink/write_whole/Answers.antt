use Rattle.std.proofs.Common.{◌∙◌}
use Rattle.opc_io.proofs.Writing.{next-within, next-written}
use Rattle.opc_io.proofs.sink.write_whole.Goals as goal

pub loop-done-preserved : goal.loop-done-preserved
loop-done-preserved g c =
    let bytes = c.args.bytes.now in
    let inv = c.loop-done.invariant in (
      next-within bytes c.loop-done.done c.in-Ok.count inv.0 c.in-Ok.ensures.bound,
      next-written bytes c.loop-done.done c.in-Ok.count inv.0 c.in-Ok.ensures.bound _ _ _ inv.1 c.in-Ok.ensures.bytes,
      c.in-Ok.ensures.failed ∙ inv.2,
    )
