use Rattle.std.proofs.Common.{[], ◌∙◌, refl, sym}
use Rattle.opc_policy_witness.proofs.Products.{open_one}
use Rattle.opc_policy_witness.proofs.common.any_names.Goals as goal

pub returns : goal.returns
returns c = λ s h.
    open_one c.push.new.self.items c.new-masks.result.items c.in_ok-with_open.field-0 c.size_of.result [] s
    c.new-masks.ensures.items c.in_ok-push.ensures.items refl c.in_ok-with_open.ensures (h ∙ sym c.size_of.ensures)
