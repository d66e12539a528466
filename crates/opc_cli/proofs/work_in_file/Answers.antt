use Rattle.std.proofs.Common.{◌∙◌, ap, inl, inr}
use Rattle.opc_cli_failures.specs.Statuses.{status_of}
use Rattle.opc_cli.proofs.Done.{openings_fail, same_fault}
use Rattle.opc_cli.proofs.work_in_file.Goals as goal

pub returns-in-Ok : goal.returns-in-Ok
returns-in-Ok g c = inl (record {
  end = c.in-Ok.done.end;
  closed = c.in-Ok.done.closed;
  are_made = c.in-Ok.done.are_made;
  done = c.in-Ok.ensures.worked;
  status_is = c.ended.ensures.status;
  noted = c.note_made.new.errors;
  made_noted = c.note_made.ensures.noted;
  end_reported = c.ended.ensures.reported;
  kept = c.ended.ensures.kept;
})

pub returns-in-Err : goal.returns-in-Err
returns-in-Err g c = inr (record {
  fault = c.in-Err.refused.fault;
  not_opened = c.in-Err.ensures.failed;
  silent = c.in-Err.ensures.silent;
  status_is = c.reported.ensures.status ∙ ap status_of c.not_opened-failure.ensures ∙ openings_fail c.in-Err.refused.fault;
  fault_reported = same_fault g.E.Write.contents c.args.errors.now c.reported.new.errors _ _ c.not_opened-failure.ensures c.reported.ensures.reported;
})
