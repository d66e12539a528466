use Rattle.std.proofs.Common.{◌≡◌, Some, true, sym, ◌∙◌, rules}
use Rattle.opc_names.specs.declared.class.Class.TheVariants.{Console}
use Rattle.opc_names.specs.declared.level.Level.TheVariants.{Read}
use Rattle.opc_policy_members.specs.Members.{groups_of}
use Rattle.opc_policy_members.specs.Taken.{is_active}
use Rattle.opc_terms.specs.declared.rule.Rule.TheVariants as rule
use Rattle.opc_policy.specs.declared.ruling.Ruling.TheVariants.{Allowed}
use Rattle.opc_state.specs.State.{deciding_in}
use Rattle.opc_gate_rulings.proofs.Ruled.{ruled, unless}
use Rattle.opc_gate_rulings.proofs.ruling.logon_ruling_on.Goals as goal

pub returns : goal.returns
returns g c = record {
  kept = search rules;
  answers = λ sure s represents.
      let first = c.in_ok-is_active.ensures in
      let second = c.in_ok-ruling.ensures in
      let before = second.kept.sure sure in
      let active : is_active s.policy.active Console ≡ true = sym (first.answers before s represents) ∙ c.if-not-branch.false in
      let ruling = second.answers sure s (first.kept.same before s represents) in
      unless c.args.user.now.revoked _ _ _ c.if-user.false (rw (c.unwrap_or.ensures, ruling, c.resource_of.ensures, active)
      (sym (ruled true (deciding_in s.policy Console c.args.console.now.name) c.args.user.now
      (Some c.args.console.now.name) (groups_of s.policy.connects c.args.user.now.id) Read (Allowed rule.NoProfile))));
}
