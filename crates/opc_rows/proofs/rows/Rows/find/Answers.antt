use Rattle.std.proofs.Common.{sym}
use Rattle.opc_rows.proofs.Places.{found_there}
use Rattle.opc_rows.proofs.rows.Rows.find.Goals as goal

pub returns-in-Ok : goal.returns-in-Ok
returns-in-Ok g c =
    sym (found_there (λ row. g.R.Key.PartialEq.eq (g.R.Keyed.key_of row) c.args.key.now) c.args.self.now c.in-Ok.at _
    c.in-Ok.ensures (rw (← c.self.view_is) c.index.ensures))
