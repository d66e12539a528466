use Rattle.std.proofs.Common.{inr}
use Rattle.opc_cli_words.specs.Reading.{words_after}
use Rattle.opc_embedded.proofs.Answering.{task_answered}
use Rattle.opc_embedded.proofs.asking.answer_words.Goals as goal

pub returns-in-Ok-clause-answered : goal.returns-in-Ok-clause-answered
returns-in-Ok-clause-answered g c =
    let done = c.answer_task in
    task_answered g.W.Write.contents g.E.Write.contents c.args.texts.now.policy.now c.args.texts.now.new.now
    (words_after c.args.words.now) c.args.output.now c.read_words.new.output done.new.output c.args.errors.now
    c.read_words.new.errors done.new.errors done.result c.in-Ok.task c.in-Ok.ensures done.ensures.answered

pub returns-in-Err-clause-answered : goal.returns-in-Err-clause-answered
returns-in-Err-clause-answered g c = inr c.in-Err.ensures
