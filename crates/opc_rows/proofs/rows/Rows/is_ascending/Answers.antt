use Rattle.std.proofs.Common.{rules}
use Rattle.std.proofs.lemmas.List.Sorted.{answers_always}
use Rattle.opc_rows.specs.Ordered.{comes_before}
use Rattle.opc_rows.proofs.rows.Rows.is_ascending.Goals as goal

pub returns : goal.returns
returns g c =
    let answer = c.is_sorted_by.ensures.cases (comes_before g.R.Key.Ord.cmp g.R.Keyed.key_of) (answers_always _ _ _ (λ f a r h called. search rules)) in
    rw (← c.self.view_is, ← c.deref.ensures.value) answer
