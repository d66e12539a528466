use Rattle.std.proofs.Common.{◌≡◌, ◌≤◌, [], length}
use Rattle.std.specs.Io.KnownBytes.{Consumes}
use Rattle.opc_io.specs.Reads.{Reads}
use Rattle.opc_http_requests.specs.Head.{MayLook}
use Rattle.opc_http_requests.proofs.head.read_head.Given as goal

abbrev pub invariant-loop-turn : goal.invariant-loop-turn
invariant-loop-turn g l = Consumes (g.S.Source.left l.fn.source) (g.S.Source.left l.source) l.buf.items
    × (length l.buf.items ≤ 8192) × (l._turn ≤ length l.buf.items) × (length l.headers ≡ 32)
    × Reads g.S.Source.left g.S.Source.gives MayLook l.fn.source [] l.source l.buf.items
    × (g.S.Source.has_failed l.source ≡ g.S.Source.has_failed l.fn.source)
