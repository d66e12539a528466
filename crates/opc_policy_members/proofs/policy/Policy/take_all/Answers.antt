use Rattle.std.proofs.Common.{subst, sym}
use Rattle.opc_policy_members.specs.Taken.{IsRefusedAt}
use Rattle.opc_policy_members.proofs.RowsTaken.{policy_more, policy_stops, refused_at}
use Rattle.opc_policy_members.proofs.policy.Policy.take_all.Goals as goal

pub loop-at-preserved : goal.loop-at-preserved
loop-at-preserved c = policy_more c.args.rows.now c.loop-at.at c.index-rows-at.result c.args.self.now c.loop-at.self
    c.loop-at-test.true c.index-rows-at.is c.loop-at.invariant c.take.new.self c.in-Ok.ensures.ok

pub returns-in-Err-clause-fault : goal.returns-in-Err-clause-fault
returns-in-Err-clause-fault c other = policy_stops c.args.rows.now c.loop-at.at c.index-rows-at.result c.args.self.now
    c.loop-at.self c.loop-at-test.true c.index-rows-at.is c.loop-at.invariant c.in-Err.fault (c.in-Err.ensures.fault other)

pub returns-in-Err-clause-refused : goal.returns-in-Err-clause-refused
returns-in-Err-clause-refused c other =
    subst (λ p. IsRefusedAt c.args.self.now p c.args.rows.now c.loop-at.at c.in-Err.fault) (sym c.in-Err.ensures.unchanged)
    (refused_at c.args.rows.now c.loop-at.at c.index-rows-at.result c.args.self.now c.loop-at.self c.loop-at-test.true
    c.index-rows-at.is c.loop-at.invariant c.in-Err.fault (c.in-Err.ensures.fault other))
