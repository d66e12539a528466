use Rattle.opc_cli_words.specs.Reading.{words_after}
use Rattle.opc_cli_words.proofs.Reading.{kind_reported, task_read}
use Rattle.opc_cli_words.proofs.words.read_words.Goals as goal

pub returns-in-Ok : goal.returns-in-Ok
returns-in-Ok g c =
    task_read g.E.Write.contents _ _ (λ w. g.W.Write.contents w.inner) c.args.output.now (words_after c.args.words.now) c.in-Ok.ensures.fails _
    c.in-Ok.ensures.found c.task_of.result c.task_of.ensures

pub returns-in-Err : goal.returns-in-Err
returns-in-Err g c =
    kind_reported g.E.Write.contents _ _ (λ w. g.W.Write.contents w.inner) c.args.output.now _ (words_after c.args.words.now) c.in-Err.error
    c.in-Err.ensures.fails c.report_words.result c.report_words.ensures
