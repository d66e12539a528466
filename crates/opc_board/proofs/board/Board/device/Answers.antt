use Rattle.std.proofs.Common.{sym, ap, ◌∙◌}
use Rattle.std.specs.Option.{option_copied}
use Rattle.opc_board.proofs.Kept.{device_held}
use Rattle.opc_board.proofs.board.Board.device.Goals as goal

pub returns-in-Some-clause-held : goal.returns-in-Some-clause-held
returns-in-Some-clause-held c = rw (← c.self.view_is)
    (device_held c.self.inside.rows c.args.number.now _ (sym c.find.ensures ∙ ap option_copied c.in-Some.is)
    c.self.invariant)
