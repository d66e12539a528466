use Rattle.opc_cli_words.specs.Reading.{words_after}
use Rattle.opc_cli.proofs.Done.{task_done}
use Rattle.opc_cli.proofs.do_words.Goals as goal

pub returns-in-Ok : goal.returns-in-Ok
returns-in-Ok g c =
    let done = c.do_apart in
    task_done _ _ _ _ _ g.W.Write.contents g.E.Write.contents _ (words_after c.args.words.now) c.args.output.now
    c.read_words.new.output done.new.output c.args.errors.now c.read_words.new.errors done.new.errors done.result
    c.in-Ok.task c.in-Ok.ensures done.ensures
