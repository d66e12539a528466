use Rattle.std.proofs.Common.{◌∙◌, sym, subst, ap}
use Rattle.sqlite.specs.Held.{state}
use Rattle.sqlite.specs.Effect.{Database}
use Rattle.opc_store_schema.specs.Represented.{AreTablesOf}
use Rattle.opc_state.specs.Changes.{changed_by}
use Rattle.opc_store_schema.proofs.Opened.{alone_from}
use Rattle.opc_store_commit.proofs.commit.commit_on.Goals as goal

pub returns-in-Ok-clause-acknowledged : goal.returns-in-Ok-clause-acknowledged
returns-in-Ok-clause-acknowledged g c clean db leaves s was =
    let new = c.transact.new.conn in
    let change = c.args.change.now in
    let settled = c.in-Ok.ensures.settled clean in
    let same = g.met.S.Store.settled new.store db settled.0 leaves ∙ ap (λ (d : Database). d.trees) settled.1 in
    subst (λ t. AreTablesOf t (changed_by change s)) (sym same) (alone_from (state g.S.Store new).now (changed_by change s) (c.in-Ok.ensures.done clean s was))
