use Rattle.std.proofs.Common.{rules}
use Rattle.std.proofs.lemmas.List.Sorted.{IsPartitionPoint-from_clause}
use Rattle.opc_store_profiles.specs.Lists.{is_before}
use Rattle.opc_store_profiles.proofs.lists.first_of.Goals as goal

pub returns-clause-split : goal.returns-clause-split
returns-clause-split c = λ split.
    IsPartitionPoint-from_clause (is_before c.args.pattern.now) c.args.rows.now c.partition_point.result
    c.partition_point.ensures.partitioned split (λ a r f h. search rules)
