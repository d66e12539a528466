use Rattle.std.proofs.Common.{◌≡◌, ◌∙◌, refl, subst}
use Rattle.std.proofs.lemmas.Result.{err_from_is_err_and}
use Rattle.opc_cli_script.specs.Running.{AppendsPrefix}
use Rattle.opc_cli_script.specs.Transcripts.{answer_text}
use Rattle.opc_cli_script.specs.declared.fault.NowFault.TheVariants.{NoMemory}
use Rattle.opc_cli_script.specs.declared.turn.Turn.TheVariants.{Answered}
use Rattle.opc_cli_script.proofs.Turning.{cut_off, none_of, of_output}
use Rattle.opc_cli_script.proofs.turn.answer.Goals as goal

pub returns-in_err-text-clause-cut : goal.returns-in_err-text-clause-cut
returns-in_err-text-clause-cut g c =
    let err = err_from_is_err_and c.from_residual-in_err-text.result c.from_residual-in_err-text.ensures.1 in
    let turn = Answered c.in_ok-moment.moment c.args.request c.handle_one-answer.result in
    rw (err.1, err.2) (cut_off g.D.Terminal.reads g.D.Terminal.dates g.D.Terminal.says g.D.Terminal.held
    g.X.RequestHandler.meaning g.X.RequestHandler.handled _ c.args.number _ _ _ _
    NoMemory turn tt (c.in_ok-moment.moment, c.handle_one-answer.result, refl)
    (c.handle_one-answer.ensures.sure, c.handle_one-answer.ensures.handled, c.handle_one-answer.ensures.more)
    (none_of _ _ _ c.in_ok-moment.ensures.silent))

pub returns-in_err-say-clause-cut : goal.returns-in_err-say-clause-cut
returns-in_err-say-clause-cut g c =
    let err = err_from_is_err_and c.from_residual-in_err-say.result c.from_residual-in_err-say.ensures.1 in
    let turn = Answered c.in_ok-moment.moment c.args.request c.handle_one-answer.result in
    let text = answer_text c.in_ok-moment.moment c.handle_one-answer.result in
    let said : c.as_str.result.now ≡ text = c.as_str.ensures.value ∙ c.in_ok-text.ensures in
    let part = subst (λ t. AppendsPrefix (g.D.Terminal.held c.moment.new.self) (g.D.Terminal.held c.say.new.self) t) said c.in_err-say.ensures.cut in
    rw (err.1, err.2) (cut_off g.D.Terminal.reads g.D.Terminal.dates g.D.Terminal.says g.D.Terminal.held
    g.X.RequestHandler.meaning g.X.RequestHandler.handled _ c.args.number _ _ _ _
    _ turn (of_output _ turn c.in_err-say.ensures.fault) (c.in_ok-moment.moment, c.handle_one-answer.result, refl)
    (c.handle_one-answer.ensures.sure, c.handle_one-answer.ensures.handled, c.handle_one-answer.ensures.more)
    (subst (λ bytes. AppendsPrefix bytes (g.D.Terminal.held c.say.new.self) text) c.in_ok-moment.ensures.silent part))
