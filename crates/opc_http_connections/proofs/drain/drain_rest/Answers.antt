use Rattle.std.proofs.Common.{◌*◌, refl}
use Rattle.opc_io.proofs.Reading.{takes-more}
use Rattle.opc_http_connections.proofs.Limits.{read_out_after}
use Rattle.opc_http_connections.proofs.drain.drain_rest.Goals as goal

pub returns-then-drain_some-clause-few : goal.returns-then-drain_some-clause-few
returns-then-drain_some-clause-few g c = takes-more 32768 (31 * 32768) _ _ _ c.drain_some.ensures.few c.drain_more.ensures.few

pub returns-then-drain_some-clause-out : goal.returns-then-drain_some-clause-out
returns-then-drain_some-clause-out g c =
    let read = c.drain_some.ensures.read in
    read_out_after _ 31 32 _ _ _ read.0 refl read.1 (read.2.0 c.if-drain_some.true) c.drain_more.ensures.out
