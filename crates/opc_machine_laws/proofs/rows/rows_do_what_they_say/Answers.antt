use Rattle.opc_machine_laws.proofs.RowEffects.{rows_do}
use Rattle.opc_machine_laws.proofs.rows.rows_do_what_they_say.Goals as goal

pub returns : goal.returns
returns c = rows_do
