use Rattle.std.proofs.Common.{sym, ◌∙◌, rules}
use Rattle.opc_gate_rulings.proofs.Ruled.{one_rules}
use Rattle.opc_gate_rulings.proofs.ruling.profile_ruling_on.Goals as goal

pub returns : goal.returns
returns g c = record {
  kept = search rules;
  answers = λ sure s represents.
      let first = c.in_ok-profile.ensures in
      let second = c.in_ok-held.ensures in
      let before = second.kept.sure sure in
      let found = sym c.in-Some.is ∙ first.found.answers before s represents in
      let level = (second.answers sure s (first.found.kept.same before s represents)) in
      let ruling = c.ruling_at.ensures.ruling in
      rw (ruling, level)
      (one_rules s c.args.class c.args.resource.now c.args.user.now c.args.console.now c.args.needed (first.keyed before s represents) c.in-Some.profile found);
}
