use Rattle.opc_gate_commands.proofs.Loading.{off_becomes, off_idle}
use Rattle.opc_gate_commands.proofs.effects.log_off.Goals as goal

pub returns-clause-becomes : goal.returns-clause-becomes
returns-clause-becomes c = λ s footprint. off_becomes s c.args.console.now.name c.args.board footprint
    c.footprints_suffice.ensures.logoffs _ _ c.in_ok-edits.edits.items c.in_ok-old.ensures c.log_off.ensures
    (c.in_ok-edits.ensures.becomes s)

pub returns-clause-idle : goal.returns-clause-idle
returns-clause-idle c = λ s footprint. off_idle s c.args.console.now.name c.args.board footprint
    c.footprints_suffice.ensures.logoffs _ _ c.in_ok-edits.edits.items c.in_ok-old.ensures c.log_off.ensures
    (c.in_ok-edits.ensures.idle s)
