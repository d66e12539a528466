use Rattle.std.proofs.Common.{◌≡◌, rules}
use Rattle.opc_rows.specs.Ordered.{changed}
use Rattle.opc_board.specs.Invariants.{is}
use Rattle.opc_board.proofs.Kept.{with_console_kept}
use Rattle.opc_board.proofs.board.Board.put_console.Goals as goal

pub invariant_of-self : goal.invariant_of-self
invariant_of-self c =
    let consoles : c.change.new.self ≡ changed (λ d. is d.name c.args.row.name) (λ d. c.args.row)
    c.self.inside.rows.consoles = c.change.ensures.computed (λ d. c.args.row) (λ old new called. search rules) in
    rw consoles (with_console_kept c.args.row c.self.inside.rows c.self.invariant)

pub returns : goal.returns
returns c =
    let consoles : c.change.new.self ≡ changed (λ d. is d.name c.args.row.name) (λ d. c.args.row)
    c.self.inside.rows.consoles = c.change.ensures.computed (λ d. c.args.row) (λ old new called. search rules) in
    rw (← c.self.view_is, consoles) (search rules)
