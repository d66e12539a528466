use Rattle.std.proofs.Common.{◌∙◌, ◌++◌, ap, subst}
use Rattle.std.specs.Prelude.{string_bytes}
use Rattle.opc_answers_diff.specs.Sections.{found_changes}
use Rattle.opc_cli_questions.specs.Differences.{AreCounted, section_shown}
use Rattle.opc_cli_questions.proofs.difference.push_kind.Goals as goal

pub returns-clause-text : goal.returns-clause-text
returns-clause-text c =
    let pair = c.args.pair.now in
    let both = c.args.compared.now in
    let kind = c.args.kind.now in
    let listed = c.in_ok-changes.ensures ∙ ap (λ found. found_changes both kind found pair.at pair.other_at) c.as_slice-found.ensures.value in
    let is = c.in_ok-section.ensures
    ∙ ap (section_shown c.args.form both pair.at pair.other_at pair.found.items kind) (c.as_slice-listed.ensures.value ∙ listed) in
    c.in_ok-push_str.ensures.bytes ∙ ap (λ l. string_bytes c.args.text.now ++ l) (c.as_str.ensures.value ∙ is)

pub returns-clause-counted : goal.returns-clause-counted
returns-clause-counted c =
    let pair = c.args.pair.now in
    let both = c.args.compared.now in
    let kind = c.args.kind.now in
    let listed = c.in_ok-changes.ensures ∙ ap (λ found. found_changes both kind found pair.at pair.other_at) c.as_slice-found.ensures.value in
    subst (λ l. AreCounted l c.args.gains.now c.add.new.self) (c.as_slice-listed.ensures.value ∙ listed)
    (record { more = c.in_ok-add.ensures.more; less = c.in_ok-add.ensures.less })
