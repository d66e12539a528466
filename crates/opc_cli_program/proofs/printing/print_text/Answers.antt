use Rattle.opc_cli_program.proofs.Endings.{as_failed, as_written}
use Rattle.opc_cli_program.proofs.printing.print_text.Goals as goal

pub returns-clause-text : goal.returns-clause-text
returns-clause-text g c = as_written _ _ c.write_text.result c.printed.result c.printed.ensures.same c.write_text.ensures.text

pub returns-clause-failed : goal.returns-clause-failed
returns-clause-failed g c = as_failed c.write_text.result c.printed.result c.printed.ensures.same _ _ c.write_text.ensures.failed
