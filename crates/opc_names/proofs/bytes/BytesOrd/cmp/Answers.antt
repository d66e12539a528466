use Rattle.std.proofs.Common.{sym, ◌∙◌}
use Rattle.opc_names.proofs.Prefixes.{padded}
use Rattle.opc_names.proofs.bytes.BytesOrd.cmp.Goals as goal

-- what the rooms decide, their bytes decide
pub returns-in-Some : goal.returns-in-Some
returns-in-Some g c =
    let reported = rw c.in-Some.is at c.order_of_words.ensures in
    rw (sym c.self.view_is, sym c.other.view_is)
    (reported.0 ∙ sym (padded g.row.N _ _ _ _ c.self.invariant c.other.invariant (λ z. reported.1 (reported.0 ∙ z))))
