use Rattle.std.proofs.Common.{◌≡◌, false, sym, refl, ap, ◌∙◌, rules}
use Rattle.opc_state.specs.declared.change.Edit.TheVariants as edit
use Rattle.opc_machine.specs.Administration.{has_name}
use Rattle.opc_gate_admin.proofs.Done.{if_ok, one_edit}
use Rattle.opc_gate_admin.proofs.People.{added, new_user_changes}
use Rattle.opc_gate_admin.proofs.members.add_user.Goals as goal

pub returns : goal.returns
returns g c = record {
  kept = search rules;
  answers = λ sure s represents.
      let free : has_name s.policy c.args.user.id ≡ false =
      ap (has_name s.policy) (sym c.text.ensures.text) ∙ sym (c.in_ok-has_name.ensures.answers sure s represents)
      ∙ c.if-branch.false in
      if_ok _ (one_edit s _ _ (edit.PutUser c.args.user) (added s s.board c.args.user c.requires free) refl
      (new_user_changes s c.args.user free)) c.done_by.ensures;
}
