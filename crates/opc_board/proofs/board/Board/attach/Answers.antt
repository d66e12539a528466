use Rattle.std.proofs.Common.{◌≡◌, rules, false}
use Rattle.std.specs.Option.{is_some}
use Rattle.opc_board.specs.Invariants.{device_at}
use Rattle.opc_board.specs.Devices.{new_device}
use Rattle.opc_board.proofs.Kept.{new_device_kept}
use Rattle.opc_board.proofs.board.Board.attach.Goals as goal

pub invariant_of-self-2 : goal.invariant_of-self-2
invariant_of-self-2 c =
    let absent : is_some (device_at c.self.inside.rows c.args.number) ≡ false = search rules in
    rw c.in_ok-insert.ensures.ok (new_device_kept (new_device c.args.number) c.self.inside.rows absent tt c.self.invariant)
