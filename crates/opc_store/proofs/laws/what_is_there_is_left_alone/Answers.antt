use Rattle.opc_store.proofs.StoreLawsLemmas.{leaves_what_is_there}
use Rattle.opc_store.proofs.laws.what_is_there_is_left_alone.Goals as goal

pub returns : goal.returns
returns g c = leaves_what_is_there g.S.Store
