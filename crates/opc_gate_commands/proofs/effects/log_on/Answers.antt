use Rattle.opc_gate_commands.proofs.Loading.{on_becomes, on_idle}
use Rattle.opc_gate_commands.proofs.effects.log_on.Goals as goal

pub log_on-requires : goal.log_on-requires
log_on-requires c = rw c.requires.there c.requires.nobody

pub returns-clause-becomes : goal.returns-clause-becomes
returns-clause-becomes c = λ s footprint. on_becomes s c.args.console.now.name c.args.board footprint
    c.footprints_suffice.ensures.logons c.args.user _ _ c.in_ok-edits.edits.items c.in_ok-old.ensures c.log_on.ensures
    (c.in_ok-edits.ensures.becomes s)

pub returns-clause-idle : goal.returns-clause-idle
returns-clause-idle c = λ s footprint. on_idle s c.args.console.now.name c.args.board footprint
    c.footprints_suffice.ensures.logons c.args.user _ _ c.in_ok-edits.edits.items c.in_ok-old.ensures c.log_on.ensures
    (c.in_ok-edits.ensures.idle s)
