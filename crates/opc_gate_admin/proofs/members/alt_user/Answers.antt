use Rattle.std.proofs.Common.{◌≡◌, [], Some, sym, refl, ◌∙◌, rules}
use Rattle.opc_policy_members.specs.Members.{user_of}
use Rattle.opc_state.specs.declared.change.Edit.TheVariants as edit
use Rattle.opc_gate_admin.proofs.Done.{given, if_ok, left_alone, one_edit}
use Rattle.opc_gate_admin.proofs.People.{altered, other_user_changes, unaltered}
use Rattle.opc_gate_admin.proofs.members.alt_user.Goals as goal

pub returns-in-Some : goal.returns-in-Some
returns-in-Some g c = record {
  kept = search rules;
  answers = λ sure s represents.
      let found : user_of s.policy.users c.args.user.id ≡ Some c.in-Some.stored = sym (c.in_ok-user.ensures.answers sure s represents) ∙ c.in-Some.is in
      let none : c.new.result.items ≡ [] = cc in
      given _ _ (λ order. left_alone s _ (unaltered s s.board c.in-Some.stored c.args.user order found
      (sym c.same_user.ensures ∙ c.if-same_user.true)) c.new.result none _ c.done.ensures);
}

pub returns-in-Some-2 : goal.returns-in-Some-2
returns-in-Some-2 g c = record {
  kept = search rules;
  answers = λ sure s represents.
      let found : user_of s.policy.users c.args.user.id ≡ Some c.in-Some.stored = sym (c.in_ok-user.ensures.answers sure s represents) ∙ c.in-Some.is in
      given _ _ (λ order. if_ok _ (one_edit s _ _ (edit.PutUser c.args.user) (altered s s.board c.in-Some.stored c.args.user found) refl
      (other_user_changes s c.in-Some.stored c.args.user found (sym c.same_user.ensures ∙ c.if-same_user.false))) c.done_by.ensures);
}
