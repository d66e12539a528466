use Rattle.std.proofs.Common.{◌≡◌, ◌<◌, ◌++◌, ◌∙◌, length, take, drop, ap, add-one, append-nil, take_all, arith}
use Rattle.std.proofs.lemmas.List.{drop_all}
use Rattle.std.specs.Fn.{FnReturns}
use Rattle.opc_rows.specs.Ordered.{IsChangedAtEach}
use Rattle.opc_rows.proofs.Each.{one_further, at_the_end, each_computed}
use Rattle.opc_rows.proofs.rows.Rows.change_all.Given.{Over}
use Rattle.opc_rows.proofs.rows.Rows.change_all.Goals as goal

pub loop-row-preserved : goal.loop-row-preserved
loop-row-preserved g c =
    let within : c.loop-row.row-index < length c.deref_mut-row-items.result.now = omega arith in
    rw add-one (one_further _ _ _ _ _ _ within c.loop-row.invariant (record { met = c.change.ensures }))

-- what the loop has made is the whole list
whole : (g : Over) (c : goal.After-drop-change g)
    → take c.self.inside.items.len (c.loop-row.row-items
    ++ drop (length c.loop-row.row-items) c.self.inside.items.items) ≡ c.loop-row.row-items
whole g c =
    let long : length c.loop-row.row-items ≡ length c.self.inside.items.items = c.loop-row.auto.row-items ∙ ap length c.deref_mut-row-items.ensures.value in
    rw (drop_all (length c.loop-row.row-items) c.self.inside.items.items (omega (arith, long)), append-nil)
    (take_all c.self.inside.items.len c.loop-row.row-items (omega (arith, long, c.deref_mut-row-items.ensures.len)))

each : (g : Over) (c : goal.After-drop-change g)
    → IsChangedAtEach (λ old new. FnReturns g.F.Fn c.args.change (old, tt) new) c.args.self.now c.loop-row.row-items
each g c = rw (← c.self.view_is, ← c.deref_mut-row-items.ensures.value) (at_the_end _ _ _ _ c.loop-row-test.false c.loop-row.invariant)

pub returns-clause-each : goal.returns-clause-each
returns-clause-each g c = rw (whole g c) (each g c)

pub returns-clause-computed : goal.returns-clause-computed
returns-clause-computed g c after is = whole g c ∙ each_computed _ after is _ _ (each g c)
