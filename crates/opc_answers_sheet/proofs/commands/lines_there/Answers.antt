use Rattle.std.proofs.Common.{◌∙◌}
use Rattle.std.proofs.lemmas.Result.{IfOk-weaker}
use Rattle.opc_answers_sheet.proofs.Saying.{said_through_door}
use Rattle.opc_answers_sheet.proofs.commands.lines_there.Goals as goal

pub returns : goal.returns
returns c =
    IfOk-weaker c.said_at_door.result _ _
    (λ lines is. is ∙ said_through_door c.args.room.now.policy c.args.room.now.board c.args.need.now _ c.args.console.now _ _
    c.of-door.ensures (c.as_slice-members.ensures ∙ c.requires.members) c.requires.decided)
    c.said_at_door.ensures
