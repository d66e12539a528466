use Rattle.std.proofs.Common.{inl, inr, ◌∙◌}
use Rattle.opc_gate.proofs.Handled.{aborted, some_change, unwritten, written}
use Rattle.opc_gate.proofs.gate.committed.Goals as goal

pub returns-in-Ok-clause-handled : goal.returns-in-Ok-clause-handled
returns-in-Ok-clause-handled g c = λ sure s represents moment r d idle.
    let ok = c.in-Ok.ensures in
    written g.T.Tables.meaning _ _ s moment r _ c.args.decision.change d idle (cc)
    (ok.done sure s represents) (ok.fits sure s represents) (c.commit.ensures.crash sure s represents) (ok.acknowledged sure s represents)

pub returns-in-Err-clause-handled : goal.returns-in-Err-clause-handled
returns-in-Err-clause-handled g c = λ sure s represents moment r d idle.
    aborted g.T.Tables.meaning _ _ s moment r _ c.aborted.ensures.aborts (c.in-Err.ensures.failed sure s represents)
    (λ left h. elim (c.commit.ensures.crash sure s represents left h) [ inl before ↦ inl before | inr is ↦ inr (is ∙ d.becomes) ])
    (λ same. absurd (some_change s moment r _ c.args.decision.change d idle (cc) same))

pub returns-then-is_nothing-clause-handled : goal.returns-then-is_nothing-clause-handled
returns-then-is_nothing-clause-handled g c = λ sure s represents moment r d idle.
    unwritten g.T.Tables.meaning _ s moment r _ c.args.decision.change d (cc) represents
