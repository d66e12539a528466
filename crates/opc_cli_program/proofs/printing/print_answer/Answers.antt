use Rattle.opc_cli_program.proofs.Endings.{as_failed, as_written}
use Rattle.opc_cli_program.proofs.printing.print_answer.Goals as goal

pub returns-in-Done : goal.returns-in-Done
returns-in-Done g c =
    rw (c.in-Done.is, ← c.as_slice.ensures) (
      c.printed.ensures.ends,
      as_written _ _ c.write_lines.result c.printed.result c.printed.ensures.same c.write_lines.ensures.text,
      as_failed c.write_lines.result c.printed.result c.printed.ensures.same _ _ c.write_lines.ensures.failed,
    )
