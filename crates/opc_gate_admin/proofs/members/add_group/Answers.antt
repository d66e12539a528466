use Rattle.std.proofs.Common.{◌≡◌, false, sym, refl, ap, ◌∙◌, rules}
use Rattle.opc_state.specs.declared.change.Edit.TheVariants as edit
use Rattle.opc_machine.specs.Administration.{has_name}
use Rattle.opc_gate_admin.proofs.Done.{if_ok, one_edit}
use Rattle.opc_gate_admin.proofs.People.{new_group_changes, there_is_none}
use Rattle.opc_gate_admin.proofs.members.add_group.Goals as goal

pub returns : goal.returns
returns g c = record {
  kept = search rules;
  answers = λ sure s represents.
      let free : has_name s.policy c.args.name ≡ false =
      ap (has_name s.policy) (sym c.text.ensures.text) ∙ sym (c.in_ok-has_name.ensures.answers sure s represents)
      ∙ c.if-branch.false in
      if_ok _ (one_edit s _ _ (edit.PutGroup c.args.name) (there_is_none _ _ _ free) refl (new_group_changes s c.args.name free)) c.done_by.ensures;
}
