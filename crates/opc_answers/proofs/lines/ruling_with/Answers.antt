use Rattle.opc_answers.proofs.Said.{ruling_by}
use Rattle.opc_answers.specs.Made.{state_of}
use Rattle.std.specs.Option.{option_copied}
use Rattle.std.proofs.Common.{◌∙◌}
use Rattle.opc_answers.proofs.lines.ruling_with.Goals as goal

pub returns : goal.returns
returns c =
    c.ruling_or.ensures
    ∙ ruling_by (state_of c.args.room.now.policy c.args.room.now.board) c.args.need.now c.args.console.now c.args.user.now
    (option_copied c.args.decided) _ _ c.requires.decided c.requires.stored
    (c.deref.ensures.value ∙ c.in_ok-groups.ensures) c.line_of-line.ensures
