use Rattle.std.proofs.Common.{◌+◌, length}
use Rattle.std.specs.Option.{option_copied}
use Rattle.opc_names.specs.Walk.{left_len}
use Rattle.opc_policy_witness.proofs.expand.+add_masks.Given as goal

abbrev pub decreases-add_masks : goal.decreases-add_masks
decreases-add_masks l = left_len (option_copied l.pattern) + length l.pieces.now
