use Rattle.std.proofs.Common.{◌≡◌}
use Rattle.std.specs.Io.{WritesAtMost}
use Rattle.std.specs.Io.KnownBytes.{WriteAppends}
use Rattle.opc_http_connections.specs.Timed.{AreTries}
use Rattle.opc_http_connections.proofs.timed.Timed.write_on.Given as goal

abbrev pub invariant-loop-again : goal.invariant-loop-again
invariant-loop-again g l =
    AreTries g.K.Timer.shows g.C.Connection.limits (λ old answer new. g.C.Writable.writes old l.fn.bytes answer new)
    l.fn.self.timer.now l.fn.self.deadline l._again l.fn.self.handle l.answer l.self.handle
    × (l.self ≡ record l.fn.self { handle = l.self.handle })
    × WritesAtMost l.answer l.fn.bytes
    × WriteAppends (g.C.Writable.contents l.fn.self.handle) (g.C.Writable.contents l.self.handle) l.answer l.fn.bytes
