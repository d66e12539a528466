use Rattle.std.proofs.Common.{◌≡◌, true, false, is_some, sym, refl, ap, ◌∙◌, rules}
use Rattle.opc_policy_members.specs.Profiles.{profile_of}
use Rattle.opc_policy_members.specs.Taken.{has_user}
use Rattle.opc_state.specs.declared.change.Edit.TheVariants as edit
use Rattle.opc_gate_admin.proofs.Done.{if_ok, one_edit}
use Rattle.opc_gate_admin.proofs.Permitting.{defined, definition_changes}
use Rattle.opc_gate_admin.proofs.profiles.rdefine.Goals as goal

pub returns : goal.returns
returns g c = record {
  kept = search rules;
  answers = λ sure s represents.
      let q = c.args.profile in
      let one = c.in_ok-has_user.ensures.kept.sure sure in
      let still = c.in_ok-is_defined.ensures.kept.same one s represents in
      let free : is_some (profile_of s.policy.profiles q.class q.pattern) ≡ false =
      sym (c.in_ok-is_defined.ensures.answers one s represents) ∙ c.if-branch.false in
      let owner : has_user s.policy q.owner ≡ true =
      ap (has_user s.policy) (sym c.text.ensures.text) ∙ sym (c.in_ok-has_user.ensures.answers sure s still)
      ∙ c.if-not-branch.false in
      if_ok _ (one_edit s _ _ (edit.PutProfile q) (defined s s.board q c.requires free owner) refl (definition_changes s q free)) c.done_by.ensures;
}
