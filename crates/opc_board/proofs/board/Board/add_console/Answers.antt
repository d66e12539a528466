use Rattle.opc_board.specs.Consoles.{new_console}
use Rattle.opc_board.proofs.Kept.{new_console_kept}
use Rattle.opc_board.proofs.board.Board.add_console.Goals as goal

pub invariant_of-self-2 : goal.invariant_of-self-2
invariant_of-self-2 c = rw c.in_ok-insert.ensures.ok
    (new_console_kept (new_console c.args.name c.args.auth c.args.mode) c.self.inside.rows
    (rw c.self.view_is c.requires) c.self.invariant)
