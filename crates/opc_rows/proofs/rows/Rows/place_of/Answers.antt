use Rattle.std.proofs.Common.{rules}
use Rattle.std.proofs.lemmas.Fn.{always_returns_same}
use Rattle.opc_rows.proofs.Search.{searched}
use Rattle.opc_rows.proofs.rows.Rows.place_of.Goals as goal

pub returns : goal.returns
returns g c =
    let facts = c.binary_search_by.ensures in
    let by_key = facts.position (λ row. g.R.Key.Ord.cmp (g.R.Keyed.key_of row) c.args.key.now) (always_returns_same _ _ _ (λ a r f called. search rules)) in
    rw (← c.self.view_is, ← c.deref.ensures.value)
    (searched g.R.Key.Ord.cmp g.met.R.Key.Ord.total g.R.Key.PartialEq.eq g.met.R.Key.Ord.matches_eq g.R.Keyed.key_of
    _ c.args.key.now _ (rw (c.deref.ensures.value, c.self.view_is) c.requires) facts.bound by_key)
