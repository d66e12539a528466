use Rattle.std.proofs.Common.{ap, sym, subst, ◌∙◌}
use Rattle.opc_board.specs.Invariants.{console_at, console_before}
use Rattle.opc_rows.specs.Ordered.{Ascends}
use Rattle.opc_answers.proofs.who.console_of.Goals as goal

pub find-requires : goal.find-requires
find-requires c = subst (λ b. Ascends console_before b.consoles) (sym c.rows.ensures.rows) c.rows.ensures.invariants.consoles_rise

pub returns : goal.returns
returns c = c.find.ensures ∙ ap (λ b. console_at b c.args.name.now) c.rows.ensures.rows
