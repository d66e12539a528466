use Rattle.opc_names.proofs.Faults.{pattern_qualifiers}
use Rattle.opc_policy_witness.proofs.Meeting.{none_in_common}
use Rattle.opc_policy_witness.proofs.ends.may_share_end.Goals as goal

pub returns : goal.returns
returns c = λ e.
    none_in_common c.args.pattern.now c.args.other.now (pattern_qualifiers _ c.text.ensures.reads_back) (pattern_qualifiers _ c.text-2.ensures.reads_back)
    (rw (c.as_bytes.ensures.value, c.text.ensures.text, c.as_bytes-2.ensures.value, c.text-2.ensures.text) at (c.may_end_alike.ensures e))
