use Rattle.std.proofs.Common.{refl}
use Rattle.opc_cli_questions.proofs.comparing.compare_with.Goals as goal

pub returns-in-Ok : goal.returns-in-Ok
returns-in-Ok g c = rw c.in-Ok.is (record {
  end = c.print_difference-end.result;
  printed = c.print_difference-end.ensures;
  status_is = c.reported.ensures.status;
  end_reported = c.reported.ensures.reported;
})

pub returns-in-Err : goal.returns-in-Err
returns-in-Err g c = rw c.in-Err.is (record {
  silent = refl;
  status_is = c.side_refused.ensures.status;
  fault_reported = c.side_refused.ensures.reported;
})
