use Rattle.opc_cli_failures.proofs.Printed.{reported_whole}
use Rattle.opc_cli_failures.proofs.printing.print_failure.Goals as goal

pub returns-clause-text : goal.returns-clause-text
returns-clause-text g c = reported_whole c.print_cause.result _ _ _ _ c.in_ok-print_fault.ensures.text c.print_cause.ensures.text
