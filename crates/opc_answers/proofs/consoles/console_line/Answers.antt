use Rattle.std.proofs.Common.{◌∙◌}
use Rattle.opc_answers.specs.Made.{state_of}
use Rattle.opc_answers.proofs.Shown.{console_line_so}
use Rattle.opc_answers.proofs.consoles.console_line.Goals as goal

pub returns : goal.returns
returns c =
    c.console_by.ensures
    ∙ console_line_so (state_of c.args.room.now.policy c.args.room.now.board) c.args.entered.now.need c.args.entered.now.line
    c.args.console.now _ _ _ c.is_own-own.ensures c.in_ok-command.ensures c.in_ok-line.ensures
