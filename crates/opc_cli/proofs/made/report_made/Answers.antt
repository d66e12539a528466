use Rattle.opc_cli_failures.proofs.Printed.{had_not_failed, not_failed}
use Rattle.opc_cli.proofs.made.report_made.Goals as goal

pub returns-clause-reported : goal.returns-clause-reported
returns-clause-reported g c = not_failed c.print_made.result _ _ c.print_made.ensures.failed c.print_made.ensures.text

pub returns-clause-kept : goal.returns-clause-kept
returns-clause-kept g c = had_not_failed c.print_made.result _ _ c.print_made.ensures.failed
