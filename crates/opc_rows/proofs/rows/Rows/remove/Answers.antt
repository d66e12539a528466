use Rattle.opc_rows.specs.Ordered.{comes_before}
use Rattle.opc_rows.proofs.Places.{removed_there}
use Rattle.opc_rows.proofs.Search.{filter_nowhere, once}
use Rattle.opc_rows.proofs.rows.Rows.remove.Goals as goal

pub returns-in-Ok : goal.returns-in-Ok
returns-in-Ok g c =
    let only = once g.R.Key.Ord.cmp g.met.R.Key.Ord.total g.R.Key.PartialEq.eq g.met.R.Key.Ord.matches_eq g.R.Keyed.key_of c.args.key.now in
    rw (c.remove-row.ensures.items, c.self.view_is)
    (removed_there (comes_before g.R.Key.Ord.cmp g.R.Keyed.key_of)
    (λ row. g.R.Key.PartialEq.eq (g.R.Keyed.key_of row) c.args.key.now) only c.args.self.now c.in-Ok.at c.requires
    c.in-Ok.ensures)

pub returns-in_default : goal.returns-in_default
returns-in_default g c = filter_nowhere (λ row. g.R.Key.PartialEq.eq (g.R.Keyed.key_of row) c.args.key.now) _ c.in_default.ensures
