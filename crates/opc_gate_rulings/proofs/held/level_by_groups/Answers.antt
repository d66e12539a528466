use Rattle.std.proofs.Common.{◌∙◌, rules}
use Rattle.opc_gate_rulings.proofs.HeldIn.{by_levels}
use Rattle.opc_gate_rulings.proofs.held.level_by_groups.Goals as goal

pub returns : goal.returns
returns g c = record {
  kept = search rules;
  answers = λ sure s represents.
      let first = c.in_ok-plain.ensures in
      let second = c.in_ok-conditional.ensures in
      let before = second.kept.sure sure in
      c.level_from.ensures ∙ by_levels s.policy c.args.profile.now c.args.user.now c.args.console.now c.args.groups.now
      c.in_ok-plain.plain c.in_ok-conditional.conditional (first.answers before s represents)
      (second.answers sure s (first.kept.same before s represents));
}
