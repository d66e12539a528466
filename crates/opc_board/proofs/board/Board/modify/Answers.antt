use Rattle.std.proofs.Common.{◌≡◌, Some, rules, refl}
use Rattle.opc_rows.specs.Ordered.{changed}
use Rattle.opc_board.specs.Invariants.{is}
use Rattle.opc_board.specs.declared.rows.UnitRow.{UnitRow}
use Rattle.opc_board.proofs.Kept.{at_unit_kept}
use Rattle.opc_board.proofs.board.Board.modify.Goals as goal

pub invariant_of-self : goal.invariant_of-self
invariant_of-self c =
    let rows : c.change.new.self ≡ changed (λ d. is d.name c.args.name.now)
    (λ (d : UnitRow). record d { last_text = Some c.args.text }) c.self.inside.rows.units =
    c.change.ensures.computed (λ (d : UnitRow). record d { last_text = Some c.args.text })
    (λ old new called. search rules) in
    rw rows (at_unit_kept c.args.name.now (λ (d : UnitRow). record d { last_text = Some c.args.text }) c.self.inside.rows (λ d. refl) c.self.invariant)

pub returns : goal.returns
returns c =
    let rows : c.change.new.self ≡ changed (λ d. is d.name c.args.name.now)
    (λ (d : UnitRow). record d { last_text = Some c.args.text }) c.self.inside.rows.units =
    c.change.ensures.computed (λ (d : UnitRow). record d { last_text = Some c.args.text })
    (λ old new called. search rules) in
    rw (← c.self.view_is, rows) (search rules)
