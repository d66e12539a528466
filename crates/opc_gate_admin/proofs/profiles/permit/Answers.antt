use Rattle.std.proofs.Common.{◌≡◌, [], Ok, Some, true, false, sym, refl, ap, ◌∙◌, rules}
use Rattle.opc_policy_members.specs.Taken.{has_holder}
use Rattle.opc_state.specs.declared.change.Edit.TheVariants as edit
use Rattle.opc_state.specs.Loads.{level_for}
use Rattle.opc_gate_admin.specs.Operations.{has_level, level_in}
use Rattle.opc_gate_admin.proofs.Done.{given, if_ok, left_alone, one_edit}
use Rattle.opc_gate_admin.proofs.Permitting.{level_there, may_be_permitted, permission_again, permission_changes, profile_there}
use Rattle.opc_gate_admin.proofs.profiles.permit.Goals as goal

pub returns-then-has_level : goal.returns-then-has_level
returns-then-has_level g c = record {
  kept = search rules;
  answers = λ sure s represents.
      let e = c.args.entry in
      let one = c.in_ok-has_holder.ensures.kept.sure sure in
      let still = c.in_ok-stored.ensures.kept.same one s represents in
      let is : level_in s.policy c.args.class c.args.pattern.now e.id e.when ≡ Some c.in-Some.stored =
      sym (c.in_ok-stored.ensures.answers one s represents) ∙ c.in-Some.is in
      let there = profile_there s _ _ _ _ _ is in
      let holder : has_holder s.policy e.id ≡ true = sym (c.in_ok-has_holder.ensures.answers sure s still) ∙ c.if-not-branch.false in
      let has : has_level (level_for s.policy c.args.class c.args.pattern.now e.id e.when) e.level ≡ true =
      ap (λ o. has_level o e.level) (level_there s _ _ _ _ _ is) ∙ sym c.has_level.ensures ∙ c.if-has_level.true in
      let none : c.new.result.items ≡ [] = cc in
      given _ _ (λ order. left_alone s _
      (may_be_permitted s s.board _ _ e there holder ∙ ap (λ ps. Ok (record s.policy { profiles = ps })) (permission_again s _ _ e order there has))
      c.new.result none _ c.done.ensures);
}

pub returns : goal.returns
returns g c = record {
  kept = search rules;
  answers = λ sure s represents.
      let e = c.args.entry in
      let one = c.in_ok-has_holder.ensures.kept.sure sure in
      let still = c.in_ok-stored.ensures.kept.same one s represents in
      let is : level_in s.policy c.args.class c.args.pattern.now e.id e.when ≡ Some c.in-Some.stored =
      sym (c.in_ok-stored.ensures.answers one s represents) ∙ c.in-Some.is in
      let there = profile_there s _ _ _ _ _ is in
      let holder : has_holder s.policy e.id ≡ true = sym (c.in_ok-has_holder.ensures.answers sure s still) ∙ c.if-not-branch.false in
      let lacks : has_level (level_for s.policy c.args.class c.args.pattern.now e.id e.when) e.level ≡ false =
      ap (λ o. has_level o e.level) (level_there s _ _ _ _ _ is) ∙ sym c.has_level.ensures ∙ c.if-has_level.false in
      given _ _ (λ order. if_ok _ (one_edit s _ _ (edit.PutEntry c.args.class c.args.pattern.now e)
      (may_be_permitted s s.board _ _ e there holder) refl (permission_changes s _ _ e there lacks))
      c.done_by.ensures);
}
