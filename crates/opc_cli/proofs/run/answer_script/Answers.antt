use Rattle.std.proofs.Common.{sym}
use Rattle.opc_cli.proofs.run.answer_script.Goals as goal

pub returns : goal.returns
returns g c = record {
  end = c.run_in_memory-end.result;
  ran = c.run_in_memory-end.ensures.ran;
  status_is = c.reported_in_memory.ensures.status;
  end_reported = c.reported_in_memory.ensures.reported;
  empty_noted = rw (sym c.paths_of.ensures) c.reported_in_memory.ensures.explained;
}
