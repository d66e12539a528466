use Rattle.opc_store_sql.proofs.Looking.{looks_as, looks_then}
use Rattle.opc_store.proofs.whole.board_rows_on.Goals as goal

pub returns-clause-looks : goal.returns-clause-looks
returns-clause-looks g c =
    let two = looks_then g.S.Store _ _ _ _ _ _ _ c.live_rows_on.new.conn _ c.in_ok-board.ensures.looks c.in_ok-board-2.ensures.looks in
    let three = looks_then g.S.Store _ _ _ _ _ _ _ c.answered_on.new.conn _ two c.in_ok-board-3.ensures.looks in
    let four = looks_then g.S.Store _ _ _ _ _ _ _ c.log_on.new.conn _ three c.in_ok-board-4.ensures.looks in
    looks_as g.S.Store _ _ _ _ _ _ _ _ four
