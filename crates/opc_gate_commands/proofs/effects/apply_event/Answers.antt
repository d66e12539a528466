use Rattle.std.proofs.lemmas.Result.{err_from_is_err_and}
use Rattle.opc_gate_commands.proofs.Loading.{came_footprint, stopped_footprint}
use Rattle.opc_gate_commands.proofs.effects.apply_event.Goals as goal

pub returns-in_err-event-clause-refused : goal.returns-in_err-event-clause-refused
returns-in_err-event-clause-refused c =
    let err = err_from_is_err_and c.from_residual-in_err-event.result c.from_residual-in_err-event.ensures.1 in
    rw (err.1, err.2) (λ other s footprint. stopped_footprint c.histories_only_grow.ensures.events
    c.footprints_suffice.ensures.events s c.args.event.now c.args.board footprint _
    (c.in_err-event.ensures.refused other))

pub returns-clause-done : goal.returns-clause-done
returns-clause-done c = λ s footprint.
    came_footprint c.histories_only_grow.ensures.events c.footprints_suffice.ensures.events s c.args.event.now
    c.args.board footprint c.in_ok-old.old _ c.in_ok-edits.edits.items
    c.in_ok-old.ensures c.in_ok-event.ensures.done (c.in_ok-edits.ensures.becomes s, c.in_ok-edits.ensures.idle s)
