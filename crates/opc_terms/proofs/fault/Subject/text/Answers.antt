use Rattle.std.proofs.lemmas.Str.{IsUtf8-from_ascii}
use Rattle.opc_terms.proofs.fault.Subject.text.Goals as goal

pub unreachable-requires : goal.unreachable-requires
unreachable-requires c = c.in-Err.ensures.cases.0 (rw c.as_slice.ensures.value (IsUtf8-from_ascii _ c.self.invariant))
