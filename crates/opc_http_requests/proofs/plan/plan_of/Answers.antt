use Rattle.std.proofs.Common.{map, sym}
use Rattle.httparse.specs.Spans.{header_bytes}
use Rattle.opc_http_requests.proofs.Lengths.{few-bytes}
use Rattle.opc_http_requests.proofs.plan.plan_of.Goals as goal

pub returns-clause-few : goal.returns-clause-few
returns-clause-few c = few-bytes (map (header_bytes c.args.buf.now) c.args.headers.now) c.in_ok-length.length (sym c.in_ok-length.ensures)
