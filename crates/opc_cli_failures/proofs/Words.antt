-- How long the words of a fault are.
use Rattle.std.proofs.Common.{◌≤◌, length, arith}
use Rattle.opc_terms.specs.declared.fault.Why.{Why}
use Rattle.opc_terms.specs.declared.fault.Why.TheVariants as why
use Rattle.opc_terms.specs.Faults.{why_text}

pub why_is_short : (w : Why) → length (why_text w) ≤ 10
why_is_short why.Header = omega arith
why_is_short why.Columns = omega arith
why_is_short why.Many = omega arith
why_is_short why.Kind = omega arith
why_is_short why.Class = omega arith
why_is_short why.Name = omega arith
why_is_short why.Id = omega arith
why_is_short why.Value = omega arith
why_is_short why.Owner = omega arith
why_is_short why.Flags = omega arith
why_is_short why.Digest = omega arith
why_is_short why.When = omega arith
why_is_short why.Restricted = omega arith
