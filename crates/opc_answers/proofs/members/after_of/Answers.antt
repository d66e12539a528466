use Rattle.std.proofs.Common.{rules}
use Rattle.std.proofs.lemmas.List.Sorted.{IsPartitionPoint-from_clause}
use Rattle.opc_answers.specs.Made.{is_up_to}
use Rattle.opc_answers.proofs.Grouped.{parted_up_to}
use Rattle.opc_answers.proofs.members.after_of.Goals as goal

pub returns-clause-split : goal.returns-clause-split
returns-clause-split c =
    IsPartitionPoint-from_clause (is_up_to c.args.user.now) c.args.connects.now c.partition_point.result
    c.partition_point.ensures.partitioned (parted_up_to c.args.user.now c.args.connects.now c.requires) (λ a r f h. search rules)
