use Rattle.std.proofs.Common.{take}
use Rattle.opc_check_notes.specs.Digests.{HasDigests}
use Rattle.opc_check_notes.proofs.digests.digests_among.Given as goal

abbrev pub invariant-loop-at : goal.invariant-loop-at
invariant-loop-at l = HasDigests (take l.at-index l.rows) l.digests
