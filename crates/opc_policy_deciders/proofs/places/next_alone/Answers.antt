use Rattle.std.proofs.Common.{nat_lt, rules}
use Rattle.std.proofs.lemmas.List.Sorted.{IsPartitionPoint-from_clause}
use Rattle.opc_policy_deciders.proofs.Alone.{next_within, parted_at, stand_to_end, stand_to_next}
use Rattle.opc_policy_deciders.proofs.places.next_alone.Goals as goal

pub returns-in-Some-clause-within : goal.returns-in-Some-clause-within
returns-in-Some-clause-within c =
    let h = c.in-Some.ensures.lookup in
    next_within c.args.stand.now c.args.alone.now c.args.from c.partition_point-at.result c.requires.alone
    (IsPartitionPoint-from_clause (λ j. nat_lt j c.args.from) _ _ c.partition_point-at.ensures.partitioned
    (parted_at c.args.stand.now c.args.alone.now c.args.from c.requires.alone) (λ a r f called. search rules))
    c.in-Some.place.now h.3.0 h.1

pub returns-in-Some-clause-stand : goal.returns-in-Some-clause-stand
returns-in-Some-clause-stand c =
    let h = c.in-Some.ensures.lookup in
    stand_to_next c.args.stand.now c.args.alone.now c.args.from c.partition_point-at.result c.requires.alone
    (IsPartitionPoint-from_clause (λ j. nat_lt j c.args.from) _ _ c.partition_point-at.ensures.partitioned
    (parted_at c.args.stand.now c.args.alone.now c.args.from c.requires.alone) (λ a r f called. search rules))
    c.in-Some.place.now h.3.0 h.1

pub returns-in-None-clause-stand : goal.returns-in-None-clause-stand
returns-in-None-clause-stand c =
    stand_to_end c.args.stand.now c.args.alone.now c.args.from c.partition_point-at.result c.requires.alone
    (IsPartitionPoint-from_clause (λ j. nat_lt j c.args.from) _ _ c.partition_point-at.ensures.partitioned
    (parted_at c.args.stand.now c.args.alone.now c.args.from c.requires.alone) (λ a r f called. search rules))
    c.in-None.ensures.lookup.3
