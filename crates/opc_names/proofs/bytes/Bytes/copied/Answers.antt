use Rattle.opc_names.proofs.Copies.{copied_padded}
use Rattle.opc_names.proofs.bytes.Bytes.copied.Goals as goal

pub invariant_of-result : goal.invariant_of-result
invariant_of-result g c = rw c.copy_from_slice.ensures.after (copied_padded g.row.N c.args.bytes.now c.requires)
