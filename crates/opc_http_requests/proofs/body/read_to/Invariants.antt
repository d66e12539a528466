use Rattle.std.proofs.Common.{◌≡◌, ◌-◌, length}
use Rattle.opc_io.specs.Reads.{Reads}
use Rattle.opc_http_requests.specs.Bodies.{MayFill}
use Rattle.opc_http_requests.proofs.BodyReads.{SoFar}
use Rattle.opc_http_requests.proofs.body.read_to.Given as goal

abbrev pub invariant-loop-source : goal.invariant-loop-source
invariant-loop-source g l = SoFar l.length (g.S.Source.left l.fn.source) (g.S.Source.left l.source) l.fn.buf.items l.buf.items
    × Reads g.S.Source.left g.S.Source.gives (MayFill l.length) l.fn.source l.fn.buf.items l.source l.buf.items
    × (g.S.Source.has_failed l.source ≡ g.S.Source.has_failed l.fn.source)

abbrev pub decreases-loop-source : goal.decreases-loop-source
decreases-loop-source g l = l.length - length l.buf.items
