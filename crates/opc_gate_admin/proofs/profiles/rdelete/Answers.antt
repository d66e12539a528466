use Rattle.std.proofs.Common.{◌≡◌, true, is_some, sym, refl, ◌∙◌, rules}
use Rattle.opc_policy_members.specs.Profiles.{profile_of}
use Rattle.opc_state.specs.declared.change.Edit.TheVariants as edit
use Rattle.opc_gate_admin.proofs.Done.{if_ok, one_edit}
use Rattle.opc_gate_admin.proofs.People.{there_is}
use Rattle.opc_gate_admin.proofs.Permitting.{profile_removal_changes}
use Rattle.opc_gate_admin.proofs.profiles.rdelete.Goals as goal

pub returns : goal.returns
returns g c = record {
  kept = search rules;
  answers = λ sure s represents.
      let there : is_some (profile_of s.policy.profiles c.args.class c.args.pattern.now) ≡ true =
      sym (c.in_ok-is_defined.ensures.answers sure s represents) ∙ c.if-not-branch.false in
      if_ok _ (one_edit s _ _ (edit.RemoveProfile c.args.class c.args.pattern.now) (there_is _ _ _ there) refl
      (profile_removal_changes s _ _ there)) c.done_by.ensures;
}
