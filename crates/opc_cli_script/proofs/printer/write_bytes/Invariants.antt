use Rattle.std.proofs.Common.{◌≡◌, ◌≤◌, ◌-◌, length, take}
use Rattle.std.specs.Io.KnownBytes.{Appends}
use Rattle.opc_cli_script.proofs.printer.write_bytes.Given as goal

abbrev pub invariant-loop-done : goal.invariant-loop-done
invariant-loop-done g l =
    (l.done ≤ length l.bytes) × Appends (g.K.Sink.held l.fn.output) (g.K.Sink.held l.output) (take l.done l.bytes)
    × (g.K.Sink.has_failed l.output ≡ g.K.Sink.has_failed l.fn.output)

abbrev pub decreases-loop-done : goal.decreases-loop-done
decreases-loop-done g l = length l.bytes - l.done
