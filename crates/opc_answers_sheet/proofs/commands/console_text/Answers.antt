use Rattle.std.proofs.Common.{◌∙◌, Some, ap}
use Rattle.std.proofs.lemmas.Result.{IfOk-weaker}
use Rattle.opc_answers_sheet.specs.Cells.{users_at}
use Rattle.opc_answers_sheet.proofs.commands.console_text.Goals as goal

pub returns : goal.returns
returns c =
    IfOk-weaker c.users_at.result _ _
    (λ text is. is ∙ ap (users_at (Some c.args.console.now.name) 0) (c.as_slice.ensures.value ∙ c.in_ok-lines.ensures))
    c.users_at.ensures
