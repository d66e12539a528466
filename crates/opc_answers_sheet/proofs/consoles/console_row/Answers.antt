use Rattle.std.proofs.Common.{◌∙◌, ap}
use Rattle.std.proofs.lemmas.Result.{IfOk-weaker}
use Rattle.opc_names.specs.declared.class.Class.TheVariants.{Console}
use Rattle.opc_answers.specs.Deciding.{decider}
use Rattle.opc_answers_sheet.specs.Consoles.{users_there}
use Rattle.opc_answers_sheet.proofs.Rowing.{row_so}
use Rattle.opc_answers_sheet.proofs.consoles.console_row.Goals as goal

pub returns : goal.returns
returns c =
    let decided = c.deciding-decided.ensures ∙ ap (decider c.args.room.now.policy Console) c.resource_of.ensures in
    let lines = c.as_slice.ensures.value ∙ c.in_ok-lines.ensures in
    let users = c.as_str-2.ensures.value ∙ c.in_ok-users.ensures ∙ ap (users_there c.args.console.now) lines in
    IfOk-weaker c.row_text.result _ _
    (λ row is. is ∙ row_so _ _ _ _ _ _ (c.as_str.ensures.value ∙ c.in_ok-cells.ensures) decided users)
    c.row_text.ensures
