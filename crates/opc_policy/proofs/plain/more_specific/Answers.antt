use Rattle.std.proofs.Common.{refl}
use Rattle.std.proofs.lemmas.Bool.{false≢true}
use Rattle.opc_policy.proofs.OneMore.{decided_first, decided_still, decided_now}
use Rattle.opc_policy.proofs.plain.more_specific.Goals as goal

pub returns-in_default : goal.returns-in_default
returns-in_default c = λ seen resource covered h. decided_first seen resource c.args.profile.now covered (rw c.in_default.is at h)

pub returns-then-before : goal.returns-then-before
returns-then-before c = λ seen resource covered h. decided_now seen resource c.args.profile.now c.in-Some.decided.now
    covered (c.if-before.ensures.0 refl) (rw c.in-Some.is at h)

pub returns-else-before : goal.returns-else-before
returns-else-before c = λ seen resource covered h.
    rw c.in-Some.is (decided_still seen resource c.args.profile.now c.in-Some.decided.now (λ k. false≢true (c.if-before.ensures.1 k)) (rw c.in-Some.is at h))
