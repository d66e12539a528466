use Rattle.opc_cli.proofs.file.work_at.Goals as goal

pub returns-in-Ok-clause-worked : goal.returns-in-Ok-clause-worked
returns-in-Ok-clause-worked g c = record {
  opened = c.in-Ok.tables;
  last = c.work_on-end.result.1;
  folders = c.args.rt.now;
  opening = c.in-Ok.ensures.opened;
  sure = c.work_on-end.ensures.sure;
  done = c.work_on-end.ensures.done;
  ends = (c.close.ensures.settled, c.close.ensures.copied);
}
