use Rattle.std.proofs.Common.{◌∙◌, ap}
use Rattle.sqlite.specs.Effect.{Database}
use Rattle.opc_store.proofs.store.Store.copied.Goals as goal

pub returns-in-Ok-clause-settled : goal.returns-in-Ok-clause-settled
returns-in-Ok-clause-settled g c clean db leaves =
    let settled = c.in-Ok.ensures.settled clean in
    g.met.S.Store.settled c.migrate_on.new.conn.store db settled.0 leaves ∙ ap (λ (d : Database). d.trees) settled.1
