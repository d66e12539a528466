use Rattle.std.proofs.Common.{◌≡◌, true, false, sym, refl, ap, ◌∙◌, rules}
use Rattle.opc_policy_members.specs.Taken.{has_user}
use Rattle.opc_state.specs.declared.change.Edit.TheVariants as edit
use Rattle.opc_machine.specs.Administration.{is_in_use}
use Rattle.opc_gate_admin.proofs.Done.{if_ok, one_edit}
use Rattle.opc_gate_admin.proofs.People.{deleted, user_removal_changes}
use Rattle.opc_gate_admin.proofs.members.del_user.Goals as goal

pub returns : goal.returns
returns g c = record {
  kept = search rules;
  answers = λ sure s represents.
      let one = c.in_ok-is_in_use.ensures.kept.sure sure in
      let still = c.in_ok-has_user.ensures.kept.same one s represents in
      let there : has_user s.policy c.args.id ≡ true =
      ap (has_user s.policy) (sym c.text.ensures.text) ∙ sym (c.in_ok-has_user.ensures.answers one s represents)
      ∙ c.if-not-branch.false in
      let used : is_in_use s.policy s.board c.args.id ≡ false = sym (c.in_ok-is_in_use.ensures.answers sure s still) ∙ c.if-branch.false in
      if_ok _ (one_edit s _ _ (edit.RemoveUser c.args.id) (deleted s c.args.id there used) refl (user_removal_changes s c.args.id there)) c.done_by.ensures;
}
