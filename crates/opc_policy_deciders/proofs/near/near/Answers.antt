use Rattle.std.proofs.Common.{drop, refl, rules}
use Rattle.std.proofs.lemmas.List.{take_rest}
use Rattle.std.proofs.lemmas.List.Sorted.{IsPartitionPoint-from_clause}
use Rattle.std.specs.Cmp.Lexicographic.{slice_cmp}
use Rattle.std.specs.Ordering.{is_lt, nat_cmp}
use Rattle.opc_names.specs.Order.{head, sort_key}
use Rattle.opc_names.specs.Patterns.{tokens}
use Rattle.opc_policy_deciders.proofs.Parting.{are_near, parted}
use Rattle.opc_policy_deciders.proofs.near.near.Goals as goal

pub returns : goal.returns
returns c =
    rw take_rest (
    are_near c.args.pattern.now c.args.before.now (drop c.partition_point-from.result c.args.before.now) c.partition_point-from.result
    c.requires.pattern c.requires.before c.requires.order
    (IsPartitionPoint-from_clause (λ q. is_lt (slice_cmp nat_cmp (sort_key q) (head (tokens c.args.pattern.now)))) _ _
    c.partition_point-from.ensures.partitioned (parted (head (tokens c.args.pattern.now)) c.args.before.now c.requires.order.in_order)
    (λ a r f called. search rules))
    refl
    )
