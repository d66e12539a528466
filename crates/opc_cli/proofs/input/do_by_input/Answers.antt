use Rattle.std.proofs.Common.{◌∙◌, inl, inr, refl, sym}
use Rattle.opc_cli.proofs.Done.{failures_fail}
use Rattle.opc_cli.proofs.input.do_by_input.Goals as goal

pub returns-in-Ok : goal.returns-in-Ok
returns-in-Ok g c = rw (sym c.in-Some.ensures) (inl (record {
  bytes = c.deref-rest.result.now;
  are = c.in-Ok.ensures.bytes;
  done = c.do_task-in-Ok.ensures;
}))

pub returns-in-Err : goal.returns-in-Err
returns-in-Err g c = rw (sym c.in-Some.ensures) (inr (record {
  fault = c.in-Err.failure.fault;
  failure = c.in-Err.ensures.fault;
  silent = refl;
  status_is = c.reported.ensures.status ∙ failures_fail c.in-Err.failure.fault c.in-Err.ensures.fault;
  fault_reported = c.reported.ensures.reported;
}))
