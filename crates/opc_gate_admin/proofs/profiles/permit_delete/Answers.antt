use Rattle.std.proofs.Common.{◌≡◌, Some, true, is_some, sym, refl, ap, ◌∙◌, rules}
use Rattle.opc_state.specs.declared.change.Edit.TheVariants as edit
use Rattle.opc_machine.specs.Administration.{is_permitted}
use Rattle.opc_gate_admin.specs.Operations.{level_in}
use Rattle.opc_gate_admin.proofs.Done.{if_ok, one_edit}
use Rattle.opc_gate_admin.proofs.Permitting.{entry_removal_changes, may_be_deleted, permitted_there, profile_there}
use Rattle.opc_gate_admin.proofs.profiles.permit_delete.Goals as goal

pub returns-in-Some-Some : goal.returns-in-Some-Some
returns-in-Some-Some g c = record {
  kept = search rules;
  answers = λ sure s represents.
      let found = c.in-Some-Some in
      let is : level_in s.policy c.args.class c.args.pattern.now c.args.id.now c.args.when ≡ Some found.field-0 =
      sym (c.in_ok-level_in.ensures.answers sure s represents) ∙ found.is in
      let there = profile_there s _ _ _ _ _ is in
      let listed : is_permitted s.policy c.args.class c.args.pattern.now c.args.id.now c.args.when ≡ true =
      permitted_there s _ _ _ _ _ is ∙ ap is_some found.field-0-is in
      if_ok _ (one_edit s _ _ (edit.RemoveEntry c.args.class c.args.pattern.now c.args.id.now c.args.when)
      (may_be_deleted s s.board _ _ _ _ there listed) refl (entry_removal_changes s _ _ _ _ there listed))
      c.done_by.ensures;
}
