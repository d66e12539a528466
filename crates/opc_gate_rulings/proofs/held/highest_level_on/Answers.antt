use Rattle.std.proofs.Common.{ap, sym, ◌∙◌}
use Rattle.std.proofs.lemmas.List.{at_drop_more}
use Rattle.std.specs.Option.{option_copied}
use Rattle.opc_policy_members.specs.Access.{highest_level, higher}
use Rattle.opc_policy_members.proofs.Highest.{higher_assoc}
use Rattle.opc_state.specs.Loads.{access_list}
use Rattle.opc_gate_rulings.proofs.Connected.{kept_again}
use Rattle.opc_gate_rulings.proofs.held.highest_level_on.Goals as goal

pub loop-group-preserved : goal.loop-group-preserved
loop-group-preserved g c =
    let before = c.loop-group.invariant in
    let kept = c.in_ok-level_of.ensures.kept in (
      kept_again _ _ _ _ before.0 kept,
      λ sure s represents.
          let level = c.in_ok-level_of.ensures.answers sure s (before.0.same (kept.sure sure) s represents) in
          let more = at_drop_more (highest_level
          (access_list s.policy c.args.profile.now.class c.args.profile.now.pattern) (option_copied c.args.when))
          c.args.groups.now c.loop-group.group-index c.group-item.result c.loop-group-test.true in
          let first = rw (← c.group-item.is) at more in
          rw (c.higher-highest.ensures, level, c.id_of.ensures)
          (higher_assoc c.loop-group.highest _ _ ∙ ap (higher c.loop-group.highest) (sym first)
          ∙ before.1 (kept.sure sure) s represents),
    )
