use Rattle.opc_store.proofs.StoreTablesLemmas.{valid}
use Rattle.opc_store.proofs.tables.StoreTables.definitions_between.Goals as goal

pub returns-clause-valid : goal.returns-clause-valid
returns-clause-valid g c = λ sure s was.
    valid g.S.Store c.args.class c.args.self.now c.definitions_between.new.self c.definitions_between.result
    c.definitions_between.ensures.keeps sure s was
