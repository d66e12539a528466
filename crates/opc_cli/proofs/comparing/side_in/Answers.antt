use Rattle.std.proofs.Common.{inl, inr}
use Rattle.opc_cli.proofs.comparing.side_in.Goals as goal

pub returns-in-Ok-clause-side : goal.returns-in-Ok-clause-side
returns-in-Ok-clause-side g c = inl (record {
  opened = c.in-Ok.tables;
  last = c.side_on.new.tables;
  reading = c.in-Ok.ensures.found;
  kept = c.side_on.ensures.kept;
  side = c.side_on.ensures.side;
})

pub returns-in-Err-clause-side : goal.returns-in-Err-clause-side
returns-in-Err-clause-side g c = inr (c.in-Err.refused.fault, c.in-Err.ensures.failed, c.not_read.ensures)
