use Rattle.std.proofs.Common.{◌∙◌, inl, inr, refl, sym}
use Rattle.opc_cli.proofs.Done.{failures_fail}
use Rattle.opc_cli.proofs.do_apart.Goals as goal

pub returns-in-Ok : goal.returns-in-Ok
returns-in-Ok g c = rw (sym c.in-Some.ensures) (inl (c.in-Ok.ensures.apart, c.do_by_input-in-Ok.ensures))

pub returns-in-Err : goal.returns-in-Err
returns-in-Err g c = rw (sym c.in-Some.ensures) (inr (
  c.in-Err.ensures.shared,
  record {
    fault = c.in-Err.failure.fault;
    failure = c.in-Err.ensures.fault;
    silent = refl;
    status_is = c.reported.ensures.status ∙ failures_fail c.in-Err.failure.fault c.in-Err.ensures.fault;
    fault_reported = c.reported.ensures.reported;
  },
))
