use Rattle.std.proofs.Common.{◌≡◌, map, rules}
use Rattle.opc_board.specs.Units.{freed}
use Rattle.opc_board.proofs.Kept.{without_unit_kept}
use Rattle.opc_board.proofs.board.Board.take_out.Goals as goal

pub invariant_of-self : goal.invariant_of-self
invariant_of-self c =
    let devices : c.change_all.new.self ≡ map (freed c.args.name.now) c.self.inside.rows.devices = search rules in
    rw (c.remove.ensures, devices) (without_unit_kept c.args.name.now c.self.inside.rows c.self.invariant)
