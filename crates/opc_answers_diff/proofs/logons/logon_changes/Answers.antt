use Rattle.std.proofs.Common.{◌∙◌, ap, Global, Some, Vec}
use Rattle.std.specs.Option.{option_copied}
use Rattle.opc_names.specs.declared.class.Class.TheVariants.{Console}
use Rattle.opc_answers.specs.Deciding.{decider}
use Rattle.opc_answers_diff.specs.declared.asked.Asked.TheVariants.{Logon}
use Rattle.opc_answers_diff.specs.declared.verdicts.UserChange.{UserChange}
use Rattle.opc_answers_diff.proofs.Skipped.{same_lines}
use Rattle.opc_answers_diff.proofs.logons.logon_changes.Goals as goal

pub returns : goal.returns
returns c =
    let before = c.args.compared.now.before.policy in
    let after = c.args.compared.now.after.policy in
    same_lines (λ (v : Vec UserChange Global). v.items) Logon (option_copied c.deciding-one.result) (decider before Console c.args.console.now)
    (option_copied c.deciding-other.result) (decider after Console c.args.console.now) c.args.compared.now.members (Some c.args.console.now)
    c.changes_by.result (c.deciding-one.ensures ∙ ap (decider before Console) c.resource_of-resource.ensures)
    (c.deciding-other.ensures ∙ ap (decider after Console) c.resource_of-resource.ensures) c.changes_by.ensures
