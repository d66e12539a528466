use Rattle.std.proofs.Common.{◌∙◌}
use Rattle.opc_cli_script.proofs.Written.{next_within, next_written}
use Rattle.opc_cli_script.proofs.printer.write_bytes.Goals as goal

pub loop-done-preserved : goal.loop-done-preserved
loop-done-preserved g c =
    let bytes = c.args.bytes.now in (
      next_within bytes c.loop-done.done c.in-Ok.count c.loop-done.invariant.0 c.in-Ok.ensures.bound,
      next_written bytes c.loop-done.done c.in-Ok.count c.loop-done.invariant.0 c.in-Ok.ensures.bound _ _ _ c.loop-done.invariant.1 c.in-Ok.ensures.bytes,
      c.in-Ok.ensures.failed ∙ c.loop-done.invariant.2,
    )
