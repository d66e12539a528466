use Rattle.std.proofs.lemmas.Result.{err_from_is_err_and}
use Rattle.opc_gate_commands.proofs.Loading.{acted_footprint, refused_footprint}
use Rattle.opc_gate_commands.proofs.effects.act_on.Goals as goal

pub returns-in_err-lines-clause-refused : goal.returns-in_err-lines-clause-refused
returns-in_err-lines-clause-refused c =
    let err = err_from_is_err_and c.from_residual-in_err-lines.result c.from_residual-in_err-lines.ensures.1 in
    rw (err.1, err.2) (λ other s footprint. refused_footprint c.histories_only_grow.ensures.commands
    c.footprints_suffice.ensures.commands s c.args.command.now c.args.console.now c.args.board footprint _
    (c.in_err-lines.ensures.refused other))

pub returns-clause-done : goal.returns-clause-done
returns-clause-done c = λ s footprint.
    acted_footprint c.histories_only_grow.ensures.commands c.footprints_suffice.ensures.commands s c.args.command.now
    c.args.console.now c.args.board footprint c.in_ok-old.old _ c.in_ok-lines.lines.items c.in_ok-edits.edits.items
    c.in_ok-old.ensures c.in_ok-lines.ensures.done (c.in_ok-edits.ensures.becomes s, c.in_ok-edits.ensures.idle s)
