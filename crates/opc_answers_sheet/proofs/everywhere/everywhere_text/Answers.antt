use Rattle.std.proofs.Common.{◌∙◌, None, ap, map}
use Rattle.std.specs.Option.{option_copied}
use Rattle.std.proofs.lemmas.Result.{IfOk-weaker}
use Rattle.opc_answers_sheet.specs.Cells.{users_at}
use Rattle.opc_answers_sheet.specs.Commands.{said_everywhere}
use Rattle.opc_answers_sheet.proofs.Saying.{said_as_who}
use Rattle.opc_answers_sheet.proofs.everywhere.everywhere_text.Goals as goal

pub returns : goal.returns
returns c =
    IfOk-weaker c.text_of_callers.result _ _
    (λ text is. is ∙ ap (users_at None 0)
    (ap (map (said_everywhere (option_copied c.args.decided) c.args.need.now.level)) c.requires.callers
    ∙ said_as_who c.args.room.now.policy c.args.room.now.board c.args.need.now (option_copied c.args.decided) c.requires.decided))
    c.text_of_callers.ensures
