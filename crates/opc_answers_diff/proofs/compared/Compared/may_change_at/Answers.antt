use Rattle.std.proofs.Common.{◌∙◌, ap, inl, inr, length, sym}
use Rattle.std.specs.Prelude.{◌==◌}
use Rattle.opc_answers_diff.proofs.Finding.{nothing}
use Rattle.opc_answers_diff.proofs.Skipped.{not_false}
use Rattle.opc_answers_diff.proofs.compared.Compared.may_change_at.Goals as goal

pub returns-then-not-may_decide_at : goal.returns-then-not-may_decide_at
returns-then-not-may_decide_at c = λ is. inl (c.may_decide_at.ensures c.if-not-may_decide_at.true)

pub returns : goal.returns
returns c = λ is.
    inr (sym c.in_ok-changes.ensures ∙ nothing c.in_ok-changes.changes.items (ap (λ l. length l == 0) (sym c.as_slice.ensures.value)
    ∙ sym c.is_empty.ensures ∙ not_false c.is_empty.result is))
