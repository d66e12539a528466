use Rattle.opc_gate.proofs.Handled.{handled_since}
use Rattle.opc_gate.proofs.gate.handle.Goals as goal

pub returns-in-Ok-clause-handled : goal.returns-in-Ok-clause-handled
returns-in-Ok-clause-handled g c = λ sure s represents.
    let still = c.committed.ensures.sure sure in
    let kept = c.decision_on.ensures.decides.kept in
    handled_since g.T.Tables.meaning _ _ _ s _ _ _ kept.crash
    (c.committed.ensures.handled sure s (kept.same still s represents) _ _ (c.in-Ok.ensures.decides.answers still s represents)
    (c.in-Ok.ensures.idle still s represents))
