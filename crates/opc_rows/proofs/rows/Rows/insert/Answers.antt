use Rattle.std.proofs.Common.{rules}
use Rattle.opc_rows.specs.Ordered.{comes_before}
use Rattle.opc_rows.proofs.Search.{insert_after}
use Rattle.opc_rows.proofs.rows.Rows.insert.Goals as goal

pub returns-clause-ok : goal.returns-clause-ok
returns-clause-ok g c =
    let is_put = insert_after (comes_before g.R.Key.Ord.cmp g.R.Keyed.key_of) c.args.row c.args.self.now
    c.place_after-at.result c.place_after-at.ensures.within (rw c.key.ensures at c.place_after-at.ensures.split) in
    rw (← is_put) (search rules)
