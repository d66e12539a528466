use Rattle.opc_store_sql.proofs.Looking.{looks_then}
use Rattle.opc_store.proofs.whole.policy_file_on.Goals as goal

pub returns-clause-looks : goal.returns-clause-looks
returns-clause-looks g c = looks_then g.S.Store _ _ _ _ _ _ _ c.consoles_on.new.conn _ c.in_ok-consoles.ensures.looks c.policy_rows_on.ensures.looks
