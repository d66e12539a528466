use Rattle.std.proofs.Common.{inr}
use Rattle.opc_cli.proofs.memory.answer_lines_in_memory.Goals as goal

pub returns-in-Ok : goal.returns-in-Ok
returns-in-Ok g c = record { answered = inr (c.in-Ok.tables, c.answer_lines_on.result.1, c.in-Ok.ensures, c.answer_lines_on.ensures.answers) }
