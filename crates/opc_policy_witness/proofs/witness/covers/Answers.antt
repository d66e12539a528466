use Rattle.std.proofs.Common.{refl}
use Rattle.std.specs.Cmp.{both_ways}
use Rattle.opc_names.specs.Patterns.{covers_text}
use Rattle.opc_names.proofs.Computed.{text_computes}
use Rattle.opc_names.proofs.Faults.{pattern_qualifiers}
use Rattle.opc_policy_witness.proofs.Differing.{not_covered_so}
use Rattle.opc_policy_witness.proofs.witness.covers.Goals as goal

pub returns-then-not-may_end : goal.returns-then-not-may_end
returns-then-not-may_end c =
    not_covered_so c.args.pattern.now c.args.resource.now (pattern_qualifiers _ c.text.ensures.reads_back)
    (rw (c.as_bytes.ensures.value, c.text.ensures.text, c.as_bytes-2.ensures.value, c.text-2.ensures.text) at (c.may_end.ensures c.if-not-may_end.true))

pub returns : goal.returns
returns c =
    let pattern = c.args.pattern.now in
    let resource = c.args.resource.now in
    let computed = text_computes (covers_text pattern resource) pattern resource refl in
    both_ways c.covers.result (covers_text pattern resource) (λ e. computed.1 (c.covers.ensures.0 e)) (λ e. c.covers.ensures.1 (computed.0 e))
