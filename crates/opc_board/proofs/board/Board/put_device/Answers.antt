use Rattle.std.proofs.Common.{◌≡◌, rules}
use Rattle.opc_rows.specs.Ordered.{changed}
use Rattle.opc_board.specs.Invariants.{is, IsHeldRightly}
use Rattle.opc_board.proofs.Kept.{with_device_kept}
use Rattle.opc_board.proofs.board.Board.put_device.Goals as goal

pub invariant_of-self : goal.invariant_of-self
invariant_of-self c =
    let devices : c.change.new.self ≡ changed (λ d. is d.number c.args.row.number) (λ d. c.args.row)
    c.self.inside.rows.devices = c.change.ensures.computed (λ d. c.args.row) (λ old new called. search rules) in
    let held : IsHeldRightly c.self.inside.rows.units c.args.row = rw c.self.view_is c.requires in
    rw devices (with_device_kept c.args.row c.self.inside.rows held c.self.invariant)

pub returns : goal.returns
returns c =
    let devices : c.change.new.self ≡ changed (λ d. is d.number c.args.row.number) (λ d. c.args.row)
    c.self.inside.rows.devices = c.change.ensures.computed (λ d. c.args.row) (λ old new called. search rules) in
    rw (← c.self.view_is, devices) (search rules)
