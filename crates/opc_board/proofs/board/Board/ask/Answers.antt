use Rattle.std.proofs.Common.{◌≡◌, rules, false}
use Rattle.std.specs.Option.{is_some}
use Rattle.opc_board.specs.Invariants.{reply_at}
use Rattle.opc_board.proofs.Kept.{new_reply_kept}
use Rattle.opc_board.proofs.board.Board.ask.Goals as goal

pub invariant_of-self-2 : goal.invariant_of-self-2
invariant_of-self-2 c =
    let absent : is_some (reply_at c.self.inside.rows c.args.id) ≡ false = search rules in
    rw c.in_ok-insert.ensures.ok (new_reply_kept (record { id = c.args.id; text = c.args.text }) c.self.inside.rows absent c.self.invariant)
