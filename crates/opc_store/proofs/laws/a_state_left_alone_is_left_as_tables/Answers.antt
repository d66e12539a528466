use Rattle.opc_store.proofs.StoreLawsLemmas.{leaves_tables}
use Rattle.opc_store.proofs.laws.a_state_left_alone_is_left_as_tables.Goals as goal

pub returns : goal.returns
returns g c = leaves_tables g.S.Store
