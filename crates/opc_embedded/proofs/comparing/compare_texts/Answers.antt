use Rattle.std.proofs.Common.{refl}
use Rattle.opc_embedded.proofs.comparing.compare_texts.Goals as goal

pub returns-in-Ok : goal.returns-in-Ok
returns-in-Ok g c = (c.side_of.result, c.side_of.ensures, rw c.in-Ok.is c.compare_with_text.ensures)

pub returns-in-Err : goal.returns-in-Err
returns-in-Err g c = (
  c.side_of.result,
  c.side_of.ensures,
  rw c.in-Err.is (record {
    silent = refl;
    status_is = c.side_refused.ensures.status;
    fault_reported = c.side_refused.ensures.reported;
  }),
)
