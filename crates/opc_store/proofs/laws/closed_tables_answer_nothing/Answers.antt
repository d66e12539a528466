use Rattle.opc_store.proofs.StoreLawsLemmas.{shut_give_nothing, shut_return_nothing}
use Rattle.opc_store.proofs.laws.closed_tables_answer_nothing.Goals as goal

pub returns : goal.returns
returns g c = record { keeps = shut_give_nothing g.S.Store _ _; answers = shut_return_nothing g.S.Store _ _ _ }
