use Rattle.opc_board.proofs.Kept.{fewer_replies_kept}
use Rattle.opc_board.proofs.board.Board.reply.Goals as goal

pub invariant_of-self-2 : goal.invariant_of-self-2
invariant_of-self-2 c = rw c.remove.ensures (fewer_replies_kept c.self.inside.rows _ c.self.invariant)
