use Rattle.opc_board.proofs.board.Board.line_at.Goals as goal

pub returns : goal.returns
returns c = rw (← c.self.view_is, ← c.find.ensures) c.lines_of.ensures
