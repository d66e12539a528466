use Rattle.std.proofs.Common.{sym, ◌∙◌, rules}
use Rattle.opc_gate_commands.proofs.Allowed.{by_the_rule, if_ok}
use Rattle.opc_gate_commands.proofs.command.board_command.Goals as goal

pub returns-then-is_display : goal.returns-then-is_display
returns-then-is_display g c = record {
  kept = search rules;
  answers = λ sure s represents.
      let before = c.display_on.ensures.kept.sure sure in
      let first = c.in_ok-rule.ensures.kept.sure before in
      let stands = c.in_ok-basis.ensures.basis.answers first s represents in
      let loaded = c.in_ok-basis.ensures.basis.kept.same first s represents in
      rw (by_the_rule s c.args.console.now c.args.command.now c.args.need.now c.in-Allowed.rule
      (sym (c.in_ok-rule.ensures.answers before s loaded stands) ∙ c.in-Allowed.is))
      (if_ok c.display_on.result (λ o is at unit. is stands) (c.display_on.ensures.answers sure s (c.in_ok-rule.ensures.kept.same before s loaded)));
}

pub returns-else-is_display : goal.returns-else-is_display
returns-else-is_display g c = record {
  kept = search rules;
  answers = λ sure s represents.
      let before = c.effect_on.ensures.kept.sure sure in
      let first = c.in_ok-rule.ensures.kept.sure before in
      let stands = c.in_ok-basis.ensures.basis.answers first s represents in
      let loaded = c.in_ok-basis.ensures.basis.kept.same first s represents in
      rw (by_the_rule s c.args.console.now c.args.command.now c.args.need.now c.in-Allowed.rule
      (sym (c.in_ok-rule.ensures.answers before s loaded stands) ∙ c.in-Allowed.is))
      (if_ok c.effect_on.result (λ o is at unit. is at unit stands) (c.effect_on.ensures.answers sure s (c.in_ok-rule.ensures.kept.same before s loaded)));
}
