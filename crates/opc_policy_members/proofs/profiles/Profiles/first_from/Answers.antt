use Rattle.std.proofs.Common.{◌∙◌, ap, sym, refl, find}
use Rattle.opc_policy_members.proofs.FirstFrom.{found, none_left, other_left}
use Rattle.opc_policy_members.proofs.KeyOrder.{values_in_order, values_are_profiles}
use Rattle.opc_policy_members.specs.Profiles.{is_of_from}
use Rattle.opc_policy_members.proofs.profiles.Profiles.first_from.Goals.{in_default-via-in-Some+else-is_of, in_default-via-in_default}
use Rattle.opc_policy_members.proofs.profiles.Profiles.first_from.Goals as goal

pub returns-in-Some-clause-first : goal.returns-in-Some-clause-first
returns-in-Some-clause-first c =
    found c.args.class c.args.start c.self.inside.by_key.entries c.range.result c.self.invariant c.range.ensures.ordered
    (c.range.ensures.between tt ∙ rw c.key_bound.ensures refl) (c.in-Some.field-0-0.now, c.in-Some.profile.now) c.next.new.self
    (rw c.in-Some.is at c.next.ensures.steps) (sym c.is_of.ensures ∙ c.if-is_of.true)
    ∙ ap (find (is_of_from c.args.class c.args.start)) c.self.view_is

pub returns-in-Some-clause-profiles : goal.returns-in-Some-clause-profiles
returns-in-Some-clause-profiles c = rw (← c.self.view_is) (values_are_profiles _ c.self.invariant c.range.ensures.ordered)

pub returns-in-Some-clause-in_order : goal.returns-in-Some-clause-in_order
returns-in-Some-clause-in_order c = rw (← c.self.view_is) (values_in_order _ c.self.invariant c.range.ensures.ordered)

pub returns-in_default-clause-first : goal.returns-in_default-clause-first
returns-in_default-clause-first c =
    let entries = c.self.inside.by_key.entries in
    let between = c.range.ensures.between tt ∙ rw c.key_bound.ensures refl in
    let listed = ap (find (is_of_from c.args.class c.args.start)) c.self.view_is in
    elim c.in_default.branch [
      | in_default-via-in-Some+else-is_of w ↦
          other_left c.args.class c.args.start entries c.range.result c.self.invariant c.range.ensures.ordered between
          (w.in-Some.field-0-0.now, w.in-Some.profile.now) c.next.new.self w.in-Some.ensures.steps
          (sym w.is_of.ensures ∙ w.if-is_of.false) ∙ listed
      | in_default-via-in_default w ↦
          none_left c.args.class c.args.start entries c.range.result c.self.invariant c.range.ensures.ordered between
          w.in_default.ensures.steps.0 ∙ listed
    ]

pub returns-in_default-clause-profiles : goal.returns-in_default-clause-profiles
returns-in_default-clause-profiles c = rw (← c.self.view_is) (values_are_profiles _ c.self.invariant c.range.ensures.ordered)

pub returns-in_default-clause-in_order : goal.returns-in_default-clause-in_order
returns-in_default-clause-in_order c = rw (← c.self.view_is) (values_in_order _ c.self.invariant c.range.ensures.ordered)
