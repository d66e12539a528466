use Rattle.std.proofs.Common.{◌≡◌, ◌++◌, length}
use Rattle.opc_http_requests.specs.Paths.{unescaped}
use Rattle.opc_http_requests.proofs.path.unescaped.Given as goal

abbrev pub invariant-loop-byte : goal.invariant-loop-byte
invariant-loop-byte l = l.read.items ++ unescaped l.rest ≡ unescaped l.bytes

abbrev pub decreases-loop-byte : goal.decreases-loop-byte
decreases-loop-byte l = length l.rest
