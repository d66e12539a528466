use Rattle.std.proofs.Common.{◌∙◌, rules}
use Rattle.opc_gate_rulings.proofs.HeldIn.{by_list}
use Rattle.opc_gate_rulings.proofs.held.level_by_entries.Goals as goal

pub returns : goal.returns
returns g c = record {
  kept = search rules;
  answers = λ sure s represents whole.
      let groups = rw c.as_slice.ensures.value at (c.in_ok-groups.ensures.answers sure s represents) in
      c.level_by_list.ensures
      ∙ rw c.as_slice-2.ensures.value
      (by_list s.policy c.args.profile.now c.args.user.now c.args.console.now c.args.entries _ whole groups);
}
