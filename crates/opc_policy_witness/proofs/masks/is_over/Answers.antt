use Rattle.opc_policy_witness.proofs.Between.{more_left}
use Rattle.opc_policy_witness.proofs.masks.is_over.Goals as goal

pub returns-in-len1-up : goal.returns-in-len1-up
returns-in-len1-up c = more_left c.args.mask.now c.in-len1-up.len_at_least
