use Rattle.std.proofs.Common.{◌<◌, ◌∙◌, List, ℕ, arith, length, subst, rules}
use Rattle.opc_policy_members.specs.Members.{groups_of}
use Rattle.opc_gate_listings.proofs.Listed.{whole}
use Rattle.opc_gate_listings.proofs.profiles.all_groups.Goals as goal

pub returns : goal.returns
returns g c = record {
  kept = search rules;
  answers = λ sure s represents.
      let is = c.in_ok-groups.ensures.answers sure s represents in
      let long = c.len.ensures in
      let fewer = c.if-len.false in
      let short : length c.in_ok-groups.groups.items < 4294967295 = omega (arith, long, fewer) in
      is ∙ whole 4294967295 (groups_of s.policy.connects c.args.user.now) (subst (λ (l : List (List ℕ)). length l < 4294967295) is short);
}
