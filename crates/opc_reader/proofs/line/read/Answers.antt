use Rattle.std.proofs.Common.{arith, ap, length}
use Rattle.std.specs.Str.{chars}
use Rattle.std.proofs.lemmas.Str.{chars-IsAscii}
use Rattle.opc_reader.proofs.line.read.Goals as goal

pub trimmed-body-requires-clause-short : goal.trimmed-body-requires-clause-short
trimmed-body-requires-clause-short c = omega (
  arith,
  ap length (chars-IsAscii _ c.in_default.ensures.ascii),
  ap length c.as_bytes-2.ensures.value,
  ap length c.as_bytes.ensures.value,
  ap (λ t. length (chars t)) c.as_bytes-2.ensures.value,
)
