use Rattle.std.proofs.Common.{sym}
use Rattle.opc_cli.proofs.run.answer_now.Goals as goal

pub returns : goal.returns
returns g c = record {
  end = c.answer_lines_in_memory-end.result;
  answered = c.answer_lines_in_memory-end.ensures.answered;
  status_is = c.reported_in_memory.ensures.status;
  end_reported = c.reported_in_memory.ensures.reported;
  empty_noted = rw (sym c.paths_of.ensures) c.reported_in_memory.ensures.explained;
}
