use Rattle.std.proofs.Common.{◌∙◌, None, ap}
use Rattle.std.proofs.lemmas.Result.{IfOk-weaker}
use Rattle.opc_answers_sheet.specs.Cells.{users_at}
use Rattle.opc_answers_sheet.proofs.everywhere.text_of_all.Goals as goal

pub returns : goal.returns
returns c =
    IfOk-weaker c.users_at.result _ _ (λ text is. is ∙ ap (users_at None 0) (c.as_slice.ensures.value ∙ c.in_ok-lines.ensures))
    c.users_at.ensures
