use Rattle.std.proofs.Common.{◌≡◌, rules, false}
use Rattle.std.specs.Option.{is_some}
use Rattle.opc_board.specs.Invariants.{unit_at}
use Rattle.opc_board.specs.Units.{new_unit}
use Rattle.opc_board.proofs.Kept.{new_unit_kept}
use Rattle.opc_board.proofs.board.Board.job_in.Goals as goal

pub invariant_of-self-2 : goal.invariant_of-self-2
invariant_of-self-2 c =
    let absent : is_some (unit_at c.self.inside.rows c.args.name) ≡ false = search rules in
    rw c.in_ok-insert.ensures.ok (new_unit_kept (new_unit c.args.name c.args.kind c.args.cancelable) c.self.inside.rows absent c.self.invariant)
