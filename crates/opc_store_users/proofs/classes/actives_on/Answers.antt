use Rattle.opc_store_sql.proofs.Looking.{looks_as, looks_then}
use Rattle.opc_store_users.proofs.classes.actives_on.Goals as goal

pub returns-clause-looks : goal.returns-clause-looks
returns-clause-looks g c =
    let both = looks_then g.S.Store _ _ _ _ _ _ _ c.active_on.new.conn _ c.in_ok-console.ensures.looks c.in_ok-opercmds.ensures.looks in
    looks_as g.S.Store _ _ _ _ _ _ _ _ both
