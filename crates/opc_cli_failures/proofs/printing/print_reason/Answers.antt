use Rattle.opc_cli_failures.proofs.Printed.{then_grows}
use Rattle.opc_cli_failures.proofs.printing.print_reason.Goals as goal

pub returns-clause-text : goal.returns-clause-text
returns-clause-text g c = then_grows c.print_pair-2.result _ _ _ c.in_ok-print_pair.ensures.text c.print_pair-2.ensures.text
