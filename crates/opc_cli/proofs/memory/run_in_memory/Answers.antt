use Rattle.std.proofs.Common.{inr}
use Rattle.opc_cli.proofs.memory.run_in_memory.Goals as goal

pub returns-in-Ok : goal.returns-in-Ok
returns-in-Ok g c = record { ran = inr (c.in-Ok.tables, c.run_on.result.1, c.in-Ok.ensures, c.run_on.ensures.runs) }
