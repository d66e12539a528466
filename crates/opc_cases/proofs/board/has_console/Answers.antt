use Rattle.opc_cases.proofs.board.has_console.Goals as goal

pub find-requires : goal.find-requires
find-requires c = rw c.rows.ensures.rows c.rows.ensures.invariants.consoles_rise
