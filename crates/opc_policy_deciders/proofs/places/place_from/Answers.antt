use Rattle.std.proofs.Common.{rules}
use Rattle.std.proofs.lemmas.List.{take_rest}
use Rattle.std.proofs.lemmas.List.Sorted.{IsPartitionPoint-from_clause}
use Rattle.opc_policy_deciders.proofs.Differing.{parted_behind, those_below, those_not_below}
use Rattle.opc_policy_deciders.proofs.Parting.{is_below}
use Rattle.opc_policy_deciders.proofs.places.place_from.Goals as goal

pub returns-clause-below : goal.returns-clause-below
returns-clause-below c =
    those_below c.args.patterns.now _ c.args.from c.partition_point.result c.args.key.now (take_rest c.args.patterns.now c.args.from) c.requires.from
    (IsPartitionPoint-from_clause (λ q. is_below c.args.key.now q) _ _ c.partition_point.ensures.partitioned
    (parted_behind c.args.patterns.now _ c.args.from c.args.key.now (take_rest c.args.patterns.now c.args.from) c.requires.in_order)
    (λ a r f called. search rules))

pub returns-clause-others : goal.returns-clause-others
returns-clause-others c =
    those_not_below c.args.patterns.now _ c.args.from c.partition_point.result c.args.key.now (take_rest c.args.patterns.now c.args.from) c.requires.from
    (IsPartitionPoint-from_clause (λ q. is_below c.args.key.now q) _ _ c.partition_point.ensures.partitioned
    (parted_behind c.args.patterns.now _ c.args.from c.args.key.now (take_rest c.args.patterns.now c.args.from) c.requires.in_order)
    (λ a r f called. search rules))
