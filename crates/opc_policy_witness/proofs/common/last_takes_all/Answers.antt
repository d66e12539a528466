use Rattle.std.proofs.Common.{◌∙◌, ap, arith, sym}
use Rattle.opc_policy_witness.specs.Masks.{fits}
use Rattle.opc_policy_witness.proofs.Between.{takes_fits}
use Rattle.opc_policy_witness.proofs.Products.{fits_at}
use Rattle.opc_policy_witness.proofs.common.last_takes_all.Goals as goal

pub returns-in-len1-up : goal.returns-in-len1-up
returns-in-len1-up c = λ takes s h.
    let mask = c.mask-item.result in
    fits_at c.args.masks.now _ mask s (omega (arith, c.in-len1-up.len_at_least)) c.mask-item.is
    (ap (λ m. fits m s) (sym c.as_slice.ensures.value)
    ∙ takes_fits c.args.count c.as_slice.result.now s (sym h) (sym c.takes_all.ensures ∙ takes))
