use Rattle.std.proofs.Common.{arith, refl}
use Rattle.opc_io.proofs.Reading.{takes-more, takes-same}
use Rattle.opc_http_connections.proofs.Limits.{one_more, raised, read_out}
use Rattle.opc_http_connections.proofs.drain.drain_more.Goals as goal

pub loop-read-init : goal.loop-read-init
loop-read-init g c = (takes-same 0 _, refl)

pub loop-read-preserved : goal.loop-read-preserved
loop-read-preserved g c =
    let read = c.drain_some.ensures.read in (
      raised _ _ _ _ (omega arith) (takes-more _ 32768 _ _ _ c.loop-read.invariant.0 c.drain_some.ensures.few),
      one_more _ _ _ _ _ _ c.loop-read.invariant.1 read.1 (read.2.0 c.if-not-drain_some.false),
    )

pub returns-then-not-drain_some-clause-few : goal.returns-then-not-drain_some-clause-few
returns-then-not-drain_some-clause-few g c = raised _ _ _ _ (omega arith) (takes-more _ 32768 _ _ _ c.loop-read.invariant.0 c.drain_some.ensures.few)

pub returns-then-not-drain_some-clause-out : goal.returns-then-not-drain_some-clause-out
returns-then-not-drain_some-clause-out g c =
    let read = c.drain_some.ensures.read in
    let nothing = c.if-not-drain_some.true in
    read_out _ _ _ _ _ _ read.0 (omega (arith, c.loop-read-test.true)) c.loop-read.invariant.1 read.1 (λ some. let something = read.2.1 some in cc)
