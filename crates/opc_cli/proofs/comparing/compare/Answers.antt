use Rattle.std.proofs.Common.{refl}
use Rattle.opc_cli.proofs.comparing.compare.Goals as goal

pub returns-in-Ok : goal.returns-in-Ok
returns-in-Ok g c = (c.side_from.result, c.side_from.ensures.side, rw c.in-Ok.is c.compare_with_named.ensures)

pub returns-in-Err : goal.returns-in-Err
returns-in-Err g c = (
  c.side_from.result,
  c.side_from.ensures.side,
  rw c.in-Err.is (record {
    silent = refl;
    status_is = c.side_refused.ensures.status;
    fault_reported = c.side_refused.ensures.reported;
  }),
)
