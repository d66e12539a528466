use Rattle.std.proofs.Common.{arith}
use Rattle.opc_names.proofs.Resources.{name_valid}
use Rattle.opc_names.proofs.resource.Resource.with.Goals as goal

pub joined-requires-clause-after : goal.joined-requires-clause-after
joined-requires-clause-after g c = rw c.text-2.ensures.text (name_valid _ _ c.requires.plain c.text-2.ensures.reads_back (omega arith))
