use Rattle.std.proofs.Common.{◌≡◌, map, take}
use Rattle.opc_board.specs.Texts.{reply_line}
use Rattle.opc_board.proofs.line.reply_lines.Given as goal

abbrev pub invariant-loop-reply : goal.invariant-loop-reply
invariant-loop-reply l = l.lines.items ≡ map (λ reply. reply_line reply.id reply.text) (take l.reply-index l.replies)
