use Rattle.std.proofs.Common.{subst, sym, ◌∙◌}
use Rattle.opc_policy_members.specs.Access.{AreInOrder}
use Rattle.opc_policy_members.proofs.Placed.{set_in_place, insert_in_place, stays_in_order}
use Rattle.opc_policy_members.proofs.entries.Entries.set.Goals as goal

pub invariant_of-self : goal.invariant_of-self
invariant_of-self c =
    let place = rw c.as_slice.ensures.value at c.in-Ok.ensures in
    subst AreInOrder (sym (set_in_place c.args.entry c.self.inside.list.items c.in-Ok.at place))
    (stays_in_order c.args.entry c.self.inside.list.items c.self.invariant)

pub invariant_of-self-in-Continue-1 : goal.invariant_of-self-in-Continue-1
invariant_of-self-in-Continue-1 c =
    let place = rw c.as_slice.ensures.value at c.in-Err.ensures in
    subst AreInOrder (sym (c.in_ok-insert-in-Err.ensures.items
    ∙ insert_in_place c.args.entry c.self.inside.list.items c.in-Err.at place))
    (stays_in_order c.args.entry c.self.inside.list.items c.self.invariant)

pub returns-in-Ok-clause-ok : goal.returns-in-Ok-clause-ok
returns-in-Ok-clause-ok c =
    let place = rw c.as_slice.ensures.value at c.in-Ok.ensures in
    rw (← c.self.view_is) (set_in_place c.args.entry c.self.inside.list.items c.in-Ok.at place)

pub returns-in_ok-insert-in-Err-clause-ok : goal.returns-in_ok-insert-in-Err-clause-ok
returns-in_ok-insert-in-Err-clause-ok c =
    let place = rw c.as_slice.ensures.value at c.in-Err.ensures in
    rw (← c.self.view_is) (c.in_ok-insert-in-Err.ensures.items ∙ insert_in_place c.args.entry c.self.inside.list.items c.in-Err.at place)
