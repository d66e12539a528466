use Rattle.std.proofs.Common.{◌∙◌, sym}
use Rattle.opc_policy.proofs.Skipped.{found_covering, none_covering, passes, passes_fewer, skips, skips_fewer}
use Rattle.opc_policy.proofs.covering.covering_from.Goals as goal

pub loop-profile-smaller-in-Some-key_past : goal.loop-profile-smaller-in-Some-key_past
loop-profile-smaller-in-Some-key_past c =
    skips_fewer c.args.class c.args.resource.now c.loop-profile.from c.in-Some.profile.now c.args.profiles.now
    c.in-Some.ensures.profiles c.in-Some.ensures.in_order (sym c.in-Some.ensures.first) c.in-Some-key_past.past
    (rw c.sort_key-key.ensures.key at c.in-Some-key_past.ensures.further)

pub loop-profile-preserved-in-Some-key_past : goal.loop-profile-preserved-in-Some-key_past
loop-profile-preserved-in-Some-key_past c =
    skips c.args.class c.args.resource.now c.loop-profile.from c.in-Some.profile.now c.args.profiles.now
    c.in-Some.ensures.profiles c.in-Some.ensures.in_order (sym c.in-Some.ensures.first) c.in-Some-key_past.past
    (rw c.sort_key-key.ensures.key at c.in-Some-key_past.ensures.further)
    (rw (c.as_slice.ensures.value, c.with_period-name.ensures, c.sort_key-key.ensures.key) at c.in-Some-key_past.ensures.later)
    ∙ c.loop-profile.invariant

pub returns-then-covers-clause-first : goal.returns-then-covers-clause-first
returns-then-covers-clause-first c =
    found_covering c.args.class c.args.resource.now c.loop-profile.from c.in-Some.profile.now c.args.profiles.now
    c.in-Some.ensures.profiles c.in-Some.ensures.in_order (sym c.in-Some.ensures.first) (sym c.covers.ensures ∙ c.if-covers.true)
    ∙ c.loop-profile.invariant

pub loop-profile-smaller : goal.loop-profile-smaller
loop-profile-smaller c =
    rw c.sort_key-key.ensures.key
    (passes_fewer c.args.class c.args.resource.now c.loop-profile.from c.in-Some.profile.now c.args.profiles.now
    c.in-Some.ensures.profiles c.in-Some.ensures.in_order (sym c.in-Some.ensures.first))

pub loop-profile-preserved : goal.loop-profile-preserved
loop-profile-preserved c =
    rw c.sort_key-key.ensures.key
    (passes c.args.class c.args.resource.now c.loop-profile.from c.in-Some.profile.now c.args.profiles.now
    c.in-Some.ensures.profiles c.in-Some.ensures.in_order (sym c.in-Some.ensures.first) (sym c.covers.ensures ∙ c.if-covers.false)
    ∙ c.loop-profile.invariant)

pub returns-clause-first : goal.returns-clause-first
returns-clause-first c =
    none_covering c.args.class c.args.resource.now c.loop-profile.from c.args.profiles.now (sym c.in_default.ensures.first) ∙ c.loop-profile.invariant
