use Rattle.std.proofs.Common.{◌∙◌, ◌++◌, ℕ, List, ap, inr}
use Rattle.std.specs.List.{flat_map}
use Rattle.opc_policy_deciders.specs.Kinds.{kinds}
use Rattle.opc_cli_questions.specs.Differences.{Listed, kind_listed, kind_shown}
use Rattle.opc_cli_questions.proofs.difference.decided_shown.Goals as goal

pub returns : goal.returns
returns c =
    let form = c.args.form in
    let both = c.args.compared.now in
    let found = c.in_ok-found.found.items in
    let changes = flat_map (kind_listed both c.args.at c.args.other_at found) kinds in (
      changes,
      inr (
        found,
        c.in_ok-found.ensures,
        ap (λ (t : List ℕ). let it : Listed = (t, changes) in it) (c.in_ok-push_kinds.ensures.text
            ∙ ap (λ t. t ++ flat_map (kind_shown form both c.args.at c.args.other_at found) kinds) c.new-text.ensures.bytes),
      ),
      c.in_ok-push_kinds.ensures.counted,
    )
