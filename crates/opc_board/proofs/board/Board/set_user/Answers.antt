use Rattle.std.proofs.Common.{◌≡◌, rules, refl}
use Rattle.opc_rows.specs.Ordered.{changed}
use Rattle.opc_board.specs.Invariants.{is}
use Rattle.opc_board.specs.declared.rows.ConsoleRow.{ConsoleRow}
use Rattle.opc_board.proofs.Kept.{at_console_kept}
use Rattle.opc_board.proofs.board.Board.set_user.Goals as goal

pub invariant_of-self : goal.invariant_of-self
invariant_of-self c =
    let rows : c.change.new.self ≡ changed (λ d. is d.name c.args.name.now)
    (λ (d : ConsoleRow). record d { user = c.args.user }) c.self.inside.rows.consoles =
    c.change.ensures.computed (λ (d : ConsoleRow). record d { user = c.args.user }) (λ old new called. search rules)
    in
    rw rows (at_console_kept c.args.name.now (λ (d : ConsoleRow). record d { user = c.args.user }) c.self.inside.rows (λ d. refl) c.self.invariant)

pub returns : goal.returns
returns c =
    let rows : c.change.new.self ≡ changed (λ d. is d.name c.args.name.now)
    (λ (d : ConsoleRow). record d { user = c.args.user }) c.self.inside.rows.consoles =
    c.change.ensures.computed (λ (d : ConsoleRow). record d { user = c.args.user }) (λ old new called. search rules)
    in
    rw (← c.self.view_is, rows) (search rules)
