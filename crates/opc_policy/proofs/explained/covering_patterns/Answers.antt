use Rattle.std.proofs.Common.{◌∙◌, sym}
use Rattle.opc_policy.proofs.InOrder.{covering-in_order}
use Rattle.opc_policy.proofs.Listed.{all_patterns, no_more_patterns, one_fewer, one_more_pattern}
use Rattle.opc_policy.proofs.explained.covering_patterns.Goals as goal

pub loop-profile-init : goal.loop-profile-init
loop-profile-init c = rw c.new-list.ensures.items (all_patterns c.args.class c.args.resource.now c.args.profiles.now)

pub loop-profile-smaller : goal.loop-profile-smaller
loop-profile-smaller c =
    rw c.sort_key.ensures.key
    (one_fewer c.args.class c.args.resource.now c.loop-profile.start c.in-Some.profile.now c.args.profiles.now
    c.in-Some.ensures.in_order (sym c.in-Some.ensures.first))

pub loop-profile-preserved : goal.loop-profile-preserved
loop-profile-preserved c =
    rw (c.in_ok-push.ensures.items, c.sort_key.ensures.key)
    (one_more_pattern c.args.class c.args.resource.now c.loop-profile.start c.in-Some.profile.now c.args.profiles.now c.loop-profile.list.items
    c.in-Some.ensures.in_order (sym c.in-Some.ensures.first)
    ∙ c.loop-profile.invariant)

pub returns-clause-patterns : goal.returns-clause-patterns
returns-clause-patterns c =
    no_more_patterns c.args.class c.args.resource.now c.loop-profile.start c.args.profiles.now c.loop-profile.list.items (sym c.in_default.ensures.first)
    ∙ c.loop-profile.invariant

pub returns-in_err-push-clause-in_order : goal.returns-in_err-push-clause-in_order
returns-in_err-push-clause-in_order c =
    covering-in_order c.args.class c.args.resource.now c.args.profiles.now c.in-Some.ensures.profiles c.in-Some.ensures.in_order

pub returns-clause-in_order : goal.returns-clause-in_order
returns-clause-in_order c =
    covering-in_order c.args.class c.args.resource.now c.args.profiles.now c.in_default.ensures.profiles c.in_default.ensures.in_order
