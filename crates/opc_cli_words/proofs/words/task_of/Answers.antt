use Rattle.std.proofs.Common.{inr, refl}
use Rattle.clap.specs.Matches.{found_of}
use Rattle.opc_cli_words.proofs.Asked.{fails_at, is_task}
use Rattle.opc_cli_words.proofs.words.task_of.Goals as goal

pub returns-in-Ok : goal.returns-in-Ok
returns-in-Ok g c = (
  is_task c.args.matches.now (found_of c.in-Some.chosen.now) c.in-Some.command.now c.in-Ok.task
      c.in-Some.ensures.name c.in-Some.ensures.rows c.in-Ok.ensures.1 c.in-Ok.ensures.0,
  refl,
)

pub returns-in-Err : goal.returns-in-Err
returns-in-Err g c = (
  refl,
  inr (record {
    command = c.in-Some.command.now;
    mistake = c.in-Err.mistake;
    fails = fails_at c.args.matches.now (found_of c.in-Some.chosen.now) c.in-Some.command.now c.in-Err.mistake
        c.in-Some.ensures.name c.in-Some.ensures.rows c.in-Err.ensures;
    printed = c.report_mistake.ensures;
  }),
)
