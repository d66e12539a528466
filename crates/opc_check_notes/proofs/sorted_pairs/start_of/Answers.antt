use Rattle.std.proofs.Common.{is_lt, rules}
use Rattle.std.proofs.lemmas.List.Sorted.{IsPartitionPoint-from_clause}
use Rattle.opc_check_notes.proofs.Listing.{parted_less}
use Rattle.opc_check_notes.proofs.sorted_pairs.start_of.Goals as goal

pub returns-clause-parts : goal.returns-clause-parts
returns-clause-parts g c =
    IsPartitionPoint-from_clause (λ p. is_lt (g.K.Ord.cmp p.0 c.args.key.now)) _ _ c.partition_point.ensures.partitioned
    (parted_less g.met.K.Ord.total _ c.args.key.now c.requires) (λ a r f called. search rules)
