use Rattle.std.proofs.Common.{rules, not, is_lt}
use Rattle.std.proofs.lemmas.List.Sorted.{IsPartitionPoint-from_clause}
use Rattle.opc_rows.proofs.Search.{parted_by_key, cut_by_key}
use Rattle.opc_rows.proofs.rows.Rows.place_after.Goals as goal

pub returns-clause-split : goal.returns-clause-split
returns-clause-split g c =
    let order = parted_by_key g.R.Key.Ord.cmp g.met.R.Key.Ord.total g.R.Key.PartialEq.eq g.met.R.Key.Ord.matches_eq
    g.R.Keyed.key_of _ c.args.key.now (rw (c.deref.ensures.value, c.self.view_is) c.requires) in
    let split = IsPartitionPoint-from_clause
    (λ row. not (is_lt (g.R.Key.Ord.cmp c.args.key.now (g.R.Keyed.key_of row)))) _ _
    c.partition_point.ensures.partitioned order (λ a r f called. search rules) in
    rw (← c.self.view_is, ← c.deref.ensures.value)
    (cut_by_key g.R.Key.Ord.cmp g.met.R.Key.Ord.total g.R.Key.PartialEq.eq g.met.R.Key.Ord.matches_eq
    g.R.Keyed.key_of _ c.args.key.now _ split)
