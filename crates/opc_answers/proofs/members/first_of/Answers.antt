use Rattle.std.proofs.Common.{rules}
use Rattle.std.proofs.lemmas.List.Sorted.{IsPartitionPoint-from_clause}
use Rattle.opc_answers.specs.Made.{is_before}
use Rattle.opc_answers.proofs.Grouped.{parted_before}
use Rattle.opc_answers.proofs.members.first_of.Goals as goal

pub returns-clause-split : goal.returns-clause-split
returns-clause-split c =
    IsPartitionPoint-from_clause (is_before c.args.user.now) c.args.connects.now c.partition_point.result
    c.partition_point.ensures.partitioned (parted_before c.args.user.now c.args.connects.now c.requires) (λ a r f h. search rules)
