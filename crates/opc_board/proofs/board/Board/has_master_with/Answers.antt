use Rattle.opc_board.proofs.Kept.{masters_with}
use Rattle.opc_board.proofs.board.Board.has_master_with.Goals as goal

pub returns : goal.returns
returns c = rw (← c.self.view_is, masters_with c.args.row.now c.self.inside.rows c.self.invariant) c.any_master_with.ensures
