use Rattle.std.proofs.Common.{◌≡◌, true, sym, refl, ap, ◌∙◌, rules}
use Rattle.opc_policy_members.specs.Taken.{has_group, has_user}
use Rattle.opc_state.specs.declared.change.Edit.TheVariants as edit
use Rattle.opc_state.specs.Loads.{is_connected}
use Rattle.opc_gate_admin.proofs.Done.{if_ok, one_edit}
use Rattle.opc_gate_admin.proofs.People.{connect_removal_changes, there_is}
use Rattle.opc_gate_admin.proofs.members.remove.Goals as goal

pub returns : goal.returns
returns g c = record {
  kept = search rules;
  answers = λ sure s represents.
      let two = c.in_ok-is_connected.ensures.kept.sure sure in
      let one = c.in_ok-has_group.ensures.kept.sure two in
      let first = c.in_ok-has_user.ensures.kept.same one s represents in
      let second = c.in_ok-has_group.ensures.kept.same two s first in
      let user : has_user s.policy c.args.connect.user ≡ true =
      ap (has_user s.policy) (sym c.text.ensures.text) ∙ sym (c.in_ok-has_user.ensures.answers one s represents)
      ∙ c.if-not-branch.false in
      let group : has_group s.policy c.args.connect.group ≡ true =
      ap (has_group s.policy) (sym c.text-2.ensures.text) ∙ sym (c.in_ok-has_group.ensures.answers two s first)
      ∙ c.if-not-branch-2.false in
      let connected : is_connected s.policy c.args.connect.user c.args.connect.group ≡ true =
      ap (is_connected s.policy c.args.connect.user) (sym c.text-3.ensures.text)
      ∙ sym (c.in_ok-is_connected.ensures.answers sure s second) ∙ c.if-not-branch-3.false in
      if_ok _ (one_edit s _ _ (edit.RemoveConnect c.args.connect)
      (there_is _ _ _ user ∙ there_is _ _ _ group ∙ there_is _ _ _ connected) refl
      (connect_removal_changes s c.args.connect connected)) c.done_by.ensures;
}
