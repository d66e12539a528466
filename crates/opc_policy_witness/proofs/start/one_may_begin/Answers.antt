use Rattle.opc_names.proofs.Faults.{pattern_qualifiers}
use Rattle.opc_policy_witness.proofs.start.one_may_begin.Goals as goal

pub may_begin-requires : goal.may_begin-requires
may_begin-requires c = rw (c.as_bytes.ensures.value, c.text.ensures.text) (pattern_qualifiers _ c.text.ensures.reads_back)
