use Rattle.opc_embedded.proofs.Rooms.{by_kept}
use Rattle.opc_embedded.proofs.asking.answer_given.Goals as goal

pub returns-in-Some-clause-answered : goal.returns-in-Some-clause-answered
returns-in-Some-clause-answered g c =
    by_kept g.W.Write.contents g.E.Write.contents c.args.output.now c.answer_kept.new.output c.args.errors.now
    c.answer_kept.new.errors c.in-Some.status c.args.texts.now.policy.now c.args.kept.now c.args.question.now c.requires
    c.in-Some.ensures.answered
