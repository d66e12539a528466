use Rattle.std.proofs.Common.{◌∙◌, inl, inr, refl}
use Rattle.opc_cli.proofs.Done.{failures_fail}
use Rattle.opc_cli.proofs.account.show_account.Goals as goal

pub returns-in-Ok : goal.returns-in-Ok
returns-in-Ok g c = inr (c.in-Ok.now, c.in-Ok.ensures, rw c.at-query.ensures at c.read_in_file.ensures)

pub returns-in-Err : goal.returns-in-Err
returns-in-Err g c = inl (record {
  fault = c.at.result.fault;
  failure = c.at.ensures.failure;
  silent = refl;
  status_is = c.reported.ensures.status ∙ failures_fail c.at.result.fault c.at.ensures.failure;
  fault_reported = c.reported.ensures.reported;
})
