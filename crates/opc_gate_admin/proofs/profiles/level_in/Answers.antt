use Rattle.std.proofs.Common.{◌≡◌, sym, ◌∙◌, rules}
use Rattle.std.specs.Option.{option_copied}
use Rattle.opc_gate_admin.proofs.Permitting.{level_loaded, no_profile, none_loaded}
use Rattle.opc_gate_admin.proofs.profiles.level_in.Goals as goal

pub returns-in-Some : goal.returns-in-Some
returns-in-Some g c = record {
  kept = search rules;
  answers = λ sure s represents.
      let at : option_copied c.as_ref.result ≡ c.args.when.now = search (rules, c.as_ref.ensures.value) in
      level_loaded s _ _ _ _ _ c.in-Some.level at (sym c.in-Some.is ∙ c.in_ok-level.ensures.answers sure s represents);
}

pub returns-then-branch : goal.returns-then-branch
returns-then-branch g c = record {
  kept = search rules;
  answers = λ sure s represents.
      let before = c.in_ok-is_defined-in-None.ensures.kept.sure sure in
      let at : option_copied c.as_ref.result ≡ c.args.when.now = search (rules, c.as_ref.ensures.value) in
      none_loaded s _ _ _ _ _ at (sym c.in-None.is ∙ c.in_ok-level.ensures.answers before s represents)
      (sym c.if-branch.true ∙ c.in_ok-is_defined-in-None.ensures.answers sure s (c.in_ok-level.ensures.kept.same before s represents));
}

pub returns-else-branch : goal.returns-else-branch
returns-else-branch g c = record {
  kept = search rules;
  answers = λ sure s represents.
      let before = c.in_ok-is_defined-in-None.ensures.kept.sure sure in
      no_profile s _ _ _ _ (sym c.if-branch.false ∙ c.in_ok-is_defined-in-None.ensures.answers sure s (c.in_ok-level.ensures.kept.same before s represents));
}
