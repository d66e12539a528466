use Rattle.opc_cli_failures.proofs.Printed.{then_appends}
use Rattle.opc_cli_failures.proofs.printing.print_pair.Goals as goal

pub returns-clause-text : goal.returns-clause-text
returns-clause-text g c = then_appends c.write_whole-2.result _ _ _ _ _ c.in_ok-write_whole.ensures.ok c.write_whole-2.ensures.ok
