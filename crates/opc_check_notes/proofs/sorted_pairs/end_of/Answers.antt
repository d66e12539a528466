use Rattle.std.proofs.Common.{rules}
use Rattle.std.specs.Ordering.{is_le}
use Rattle.std.proofs.lemmas.List.Sorted.{IsPartitionPoint-from_clause}
use Rattle.opc_check_notes.proofs.Listing.{parted_most}
use Rattle.opc_check_notes.proofs.sorted_pairs.end_of.Goals as goal

pub returns-clause-parts : goal.returns-clause-parts
returns-clause-parts g c =
    IsPartitionPoint-from_clause (λ p. is_le (g.K.Ord.cmp p.0 c.args.key.now)) _ _ c.partition_point.ensures.partitioned
    (parted_most g.met.K.Ord.total _ c.args.key.now c.requires) (λ a r f called. search rules)
