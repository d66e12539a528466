use Rattle.opc_store.proofs.StoreTablesLemmas.{keyed}
use Rattle.opc_store.proofs.tables.StoreTables.deciding.Goals as goal

pub returns-clause-keyed : goal.returns-clause-keyed
returns-clause-keyed g c = λ sure s was.
    keyed g.S.Store c.args.self.now c.find_deciding.new.self _ c.in_ok-find_deciding.ensures.keeps sure s was
