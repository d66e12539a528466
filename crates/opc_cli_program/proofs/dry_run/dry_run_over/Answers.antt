use Rattle.std.proofs.Common.{inr}
use Rattle.opc_cli_program.proofs.dry_run.dry_run_over.Goals as goal

pub returns-clause-tried : goal.returns-clause-tried
returns-clause-tried g c = inr (
  c.in_ok-bytes.field-0.rows.items,
  c.in_ok-bytes.ensures.rows,
  rw c.in-Some.is (rw c.of.ensures at c.try_batch.ensures.tried),
)
