use Rattle.std.proofs.Common.{◌≡◌, [], Ok, Some, true, sym, refl, ap, ◌∙◌, rules}
use Rattle.std.specs.Option.{option_map}
use Rattle.opc_policy_members.specs.Profiles.{profile_of}
use Rattle.opc_policy_members.specs.Taken.{has_user}
use Rattle.opc_state.specs.declared.change.Edit.TheVariants as edit
use Rattle.opc_state.specs.Loads.{bare}
use Rattle.opc_gate_admin.proofs.Done.{given, if_ok, left_alone, one_edit}
use Rattle.opc_gate_admin.proofs.Permitting.{alteration_changes, altered, unaltered}
use Rattle.opc_gate_admin.proofs.profiles.ralter.Goals as goal

pub returns-then-same_definition : goal.returns-then-same_definition
returns-then-same_definition g c = record {
  kept = search rules;
  answers = λ sure s represents.
      let q = c.args.profile in
      let one = c.in_ok-has_user.ensures.kept.sure sure in
      let still = c.in_ok-stored.ensures.kept.same one s represents in
      let loaded : option_map bare (profile_of s.policy.profiles q.class q.pattern) ≡ Some c.in-Some.stored =
      sym (c.in_ok-stored.ensures.answers one s represents) ∙ c.in-Some.is in
      let owner : has_user s.policy q.owner ≡ true =
      ap (has_user s.policy) (sym c.text.ensures.text) ∙ sym (c.in_ok-has_user.ensures.answers sure s still)
      ∙ c.if-not-branch.false in
      let none : c.new.result.items ≡ [] = cc in
      given _ _ (λ order. left_alone s _
      (altered s s.board c.in-Some.stored q c.requires loaded owner
      ∙ ap (λ ps. Ok (record s.policy { profiles = ps }))
      (unaltered s c.in-Some.stored q order c.requires loaded
      (sym c.same_definition.ensures ∙ c.if-same_definition.true)))
      c.new.result none _ c.done.ensures);
}

pub returns : goal.returns
returns g c = record {
  kept = search rules;
  answers = λ sure s represents.
      let q = c.args.profile in
      let one = c.in_ok-has_user.ensures.kept.sure sure in
      let still = c.in_ok-stored.ensures.kept.same one s represents in
      let loaded : option_map bare (profile_of s.policy.profiles q.class q.pattern) ≡ Some c.in-Some.stored =
      sym (c.in_ok-stored.ensures.answers one s represents) ∙ c.in-Some.is in
      let owner : has_user s.policy q.owner ≡ true =
      ap (has_user s.policy) (sym c.text.ensures.text) ∙ sym (c.in_ok-has_user.ensures.answers sure s still)
      ∙ c.if-not-branch.false in
      given _ _ (λ order. if_ok _ (one_edit s _ _ (edit.PutProfile q) (altered s s.board c.in-Some.stored q c.requires loaded owner) refl
      (alteration_changes s c.in-Some.stored q c.requires loaded (sym c.same_definition.ensures ∙ c.if-same_definition.false))) c.done_by.ensures);
}
