use Rattle.std.proofs.Common.{refl}
use Rattle.opc_cli.proofs.deciding.decide.Goals as goal

pub returns-in-Ok : goal.returns-in-Ok
returns-in-Ok g c = (
  c.try_policy.result,
  c.try_policy.ensures,
  rw c.in-Ok.is (record {
    end = c.serve_policy-end.result;
    served = c.serve_policy-end.ensures;
    status_is = c.reported.ensures.status;
    end_reported = c.reported.ensures.reported;
  }),
)

pub returns-in-Err : goal.returns-in-Err
returns-in-Err g c = (
  c.try_policy.result,
  c.try_policy.ensures,
  rw c.in-Err.is (record { silent = refl; status_is = c.side_refused.ensures.status; fault_reported = c.side_refused.ensures.reported }),
)
