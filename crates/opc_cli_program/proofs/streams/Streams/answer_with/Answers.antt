use Rattle.std.proofs.Common.{ℕ, ap}
use Rattle.opc_cli_program.proofs.Answering.{viewed}
use Rattle.opc_cli_program.proofs.streams.Streams.answer_with.Goals as goal

pub returns-clause-same_input : goal.returns-clause-same_input
returns-clause-same_input g c = ap (λ (p : ℕ × ℕ). p.0) c.answer_lines.ensures.same

pub returns-clause-same_output : goal.returns-clause-same_output
returns-clause-same_output g c = ap (λ (p : ℕ × ℕ). p.1) c.answer_lines.ensures.same

pub returns-clause-answered : goal.returns-clause-answered
returns-clause-answered g c =
    viewed (λ s. (g.R.Read.remaining s.input.now, g.W.Write.contents s.output.now.inner)) g.H.WallClock.shows_moment
    g.X.RequestHandler.meaning g.X.RequestHandler.handled _ _ _ _ _ c.answer_lines.result
    c.answer_lines.ensures.answered c.answer_lines.ensures.cut
