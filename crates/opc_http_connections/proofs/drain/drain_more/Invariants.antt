use Rattle.std.proofs.Common.{◌*◌}
use Rattle.opc_io.specs.Reads.{TakesAtMost}
use Rattle.opc_http_connections.specs.Draining.{AreFruitful}
use Rattle.opc_http_connections.proofs.drain.drain_more.Given as goal

abbrev pub invariant-loop-read : goal.invariant-loop-read
invariant-loop-read g l =
    TakesAtMost (l._read * 32768) (g.S.Source.left l.fn.source) (g.S.Source.left l.source)
    × AreFruitful g.S.Source.gives l._read l.fn.source l.source
