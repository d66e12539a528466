use Rattle.std.proofs.Common.{◌≡◌, ◌<◌, length, set, Some, rules, ◌∙◌, ap}
use Rattle.std.specs.List.{insert, position}
use Rattle.opc_rows.proofs.Places.{changed_at, changed_one, set_again}
use Rattle.opc_rows.proofs.Search.{changed_nowhere}
use Rattle.opc_rows.proofs.rows.Rows.change.Given.{Over}
use Rattle.opc_rows.proofs.rows.Rows.change.Goals as goal

-- the changed row stands where the row of the key stood
stands : (g : Over) (c : goal.In-Ok-insert g) → c.insert.new.self.items ≡ set c.self.inside.items.items c.in-Ok.at c.change.result
stands g c =
    let within : c.in-Ok.at < length c.self.inside.items.items = search rules in
    let again : c.insert.new.self.items ≡ insert c.remove-row.new.self.items c.in-Ok.at c.change.result = c.in-Ok-insert.ensures.items in
    again ∙ ap (λ xs. insert xs c.in-Ok.at c.change.result) c.remove-row.ensures.items ∙ set_again c.self.inside.items.items c.in-Ok.at c.change.result within

pub returns-in-Ok-insert-clause-one : goal.returns-in-Ok-insert-clause-one
returns-in-Ok-insert-clause-one g c =
    let at : position _ c.self.inside.items.items ≡ Some c.in-Ok.at = rw c.self.view_is c.in-Ok.ensures in
    rw (← c.self.view_is) (changed_one _ _ _ _ c.remove-row.result _ _ at c.remove-row.ensures.value c.change.ensures (stands g c))

pub returns-in-Ok-insert-clause-computed : goal.returns-in-Ok-insert-clause-computed
returns-in-Ok-insert-clause-computed g c after is =
    let at : position _ c.self.inside.items.items ≡ Some c.in-Ok.at = rw c.self.view_is c.in-Ok.ensures in
    rw (← c.self.view_is) (stands g c ∙ changed_at _ after _ _ c.remove-row.result _ at c.remove-row.ensures.value (is _ _ c.change.ensures))

pub returns-in_default-clause-computed : goal.returns-in_default-clause-computed
returns-in_default-clause-computed g c after is = changed_nowhere _ after _ c.in_default.ensures
