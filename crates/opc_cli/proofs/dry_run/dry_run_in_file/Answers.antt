use Rattle.std.proofs.Common.{◌∙◌, ap, inl, inr}
use Rattle.opc_cli_failures.specs.Statuses.{status_of}
use Rattle.opc_cli.proofs.Done.{openings_fail, same_fault}
use Rattle.opc_cli.proofs.dry_run.dry_run_in_file.Goals as goal

pub returns-in-Ok : goal.returns-in-Ok
returns-in-Ok g c = inl (record {
  end = c.in-Ok.end;
  done = c.in-Ok.ensures.done;
  status_is = c.reported.ensures.status;
  end_reported = c.reported.ensures.reported;
})

pub returns-in-Err : goal.returns-in-Err
returns-in-Err g c = inr (record {
  fault = c.in-Err.refused.fault;
  not_read = c.in-Err.ensures.failed;
  silent = c.in-Err.ensures.silent;
  status_is = c.reported-in-Err.ensures.status ∙ ap status_of c.not_read.ensures ∙ openings_fail c.in-Err.refused.fault;
  fault_reported = same_fault g.E.Write.contents c.args.errors.now c.reported-in-Err.new.errors _ _ c.not_read.ensures c.reported-in-Err.ensures.reported;
})
