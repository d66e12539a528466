use Rattle.std.proofs.Common.{◌∙◌, refl}
use Rattle.std.proofs.lemmas.Result.{err_from_is_err_and}
use Rattle.opc_cli_script.proofs.Taking.{cut_session, more_so_far}
use Rattle.opc_cli_script.proofs.Turning.{none_made}
use Rattle.opc_cli_script.proofs.session.answer_lines.Goals as goal

pub returns-in_err-turn-clause-cut : goal.returns-in_err-turn-clause-cut
returns-in_err-turn-clause-cut g c =
    let err = err_from_is_err_and c.from_residual.result c.from_residual.ensures.1 in
    rw (err.1, err.2) (cut_session g.D.Terminal.reads g.D.Terminal.dates g.D.Terminal.says g.D.Terminal.held
    g.X.RequestHandler.meaning g.X.RequestHandler.handled _ _ _ _ _ _ _
    c.loop-number.number c.loop-number.standing _ c.loop-number.invariant.1 c.in_err-turn.ensures.cut)

pub loop-number-preserved : goal.loop-number-preserved
loop-number-preserved g c =
    let was = c.loop-number.invariant in
    let one = rw c.in-Some.is at c.in_ok-turn.ensures.turn in (
      λ sure. was.0 (c.in_ok-turn.ensures.sure sure),
      more_so_far g.D.Terminal.reads g.D.Terminal.dates g.D.Terminal.says g.D.Terminal.held
          g.X.RequestHandler.meaning g.X.RequestHandler.handled _ _ _ _ _ _ _
          c.loop-number.number c.loop-number.standing c.standing_after-standing.result c.in-Some.turn was.1 one c.standing_after-standing.ensures,
      c.in_ok-turn.ensures.same ∙ was.2,
      c.in_ok-turn.ensures.failed ∙ was.3,
    )

pub returns-clause-cut : goal.returns-clause-cut
returns-clause-cut g c =
    cut_session g.D.Terminal.reads g.D.Terminal.dates g.D.Terminal.says g.D.Terminal.held
    g.X.RequestHandler.meaning g.X.RequestHandler.handled _ _ _ _ _ _ _
    c.loop-number.number c.loop-number.standing _ c.loop-number.invariant.1
    (none_made g.D.Terminal.reads g.D.Terminal.dates g.D.Terminal.says g.D.Terminal.held
    g.X.RequestHandler.meaning g.X.RequestHandler.handled _ _ _ _ _ _ _ refl refl refl)
