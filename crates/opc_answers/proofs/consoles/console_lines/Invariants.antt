use Rattle.std.proofs.Common.{◌≡◌, take}
use Rattle.opc_answers.specs.Made.{state_of}
use Rattle.opc_answers.specs.Who.{console_lines}
use Rattle.opc_answers.proofs.consoles.console_lines.Given as goal

abbrev pub invariant-loop-console : goal.invariant-loop-console
invariant-loop-console l = l.lines ≡ console_lines (state_of l.room.policy l.room.board) l.entered.need l.entered.line (take l.console-index l.consoles)
