use Rattle.std.proofs.Common.{◌≡◌}
use Rattle.opc_cli_script.proofs.Taking.{IsSoFar}
use Rattle.opc_cli_script.proofs.session.answer_lines.Given as goal

abbrev pub invariant-loop-number : goal.invariant-loop-number
invariant-loop-number g l =
    (g.X.RequestHandler.meaning.is_sure l.gate → g.X.RequestHandler.meaning.is_sure l.fn.gate)
    × IsSoFar g.D.Terminal.reads g.D.Terminal.dates g.D.Terminal.says g.D.Terminal.held
    g.X.RequestHandler.meaning g.X.RequestHandler.handled l.fn.console l.fn.gate l.gate
    l.fn.terminal l.terminal l.number l.standing
    × (g.D.Terminal.identity l.terminal ≡ g.D.Terminal.identity l.fn.terminal)
    × (g.D.Terminal.has_failed l.terminal ≡ g.D.Terminal.has_failed l.fn.terminal)
