use Rattle.std.proofs.Common.{◌≡◌}
use Rattle.std.specs.Io.{ReadsAtMost}
use Rattle.std.specs.Io.KnownBytes.{ReadConsumes}
use Rattle.opc_http_connections.specs.Timed.{AreTries}
use Rattle.opc_http_connections.proofs.timed.Timed.read_on.Given as goal

abbrev pub invariant-loop-again : goal.invariant-loop-again
invariant-loop-again g l =
    AreTries g.K.Timer.shows g.C.Connection.limits g.C.Readable.reads l.fn.self.timer.now l.fn.self.deadline l._again
    l.fn.self.handle l.answer l.self.handle
    × (l.self ≡ record l.fn.self { handle = l.self.handle })
    × ReadsAtMost l.answer l.buf
    × ReadConsumes (g.C.Readable.remaining l.fn.self.handle) (g.C.Readable.remaining l.self.handle) l.answer l.buf
