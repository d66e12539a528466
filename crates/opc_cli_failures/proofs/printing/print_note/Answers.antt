use Rattle.opc_cli_failures.proofs.Printed.{then_grows}
use Rattle.opc_cli_failures.proofs.printing.print_note.Goals as goal

pub returns-clause-text : goal.returns-clause-text
returns-clause-text g c = then_grows c.print_reason.result _ _ _ c.in_ok-print_place.ensures.text c.print_reason.ensures.text
