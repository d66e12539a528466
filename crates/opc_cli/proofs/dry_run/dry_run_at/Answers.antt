use Rattle.opc_cli.proofs.dry_run.dry_run_at.Goals as goal

pub returns-in-Ok-clause-done : goal.returns-in-Ok-clause-done
returns-in-Ok-clause-done g c = record {
  opened = c.in-Ok.tables;
  last = c.dry_run_now-end.result.1;
  reading = c.in-Ok.ensures.found;
  done = c.dry_run_now-end.ensures.tried;
}
