use Rattle.opc_cli_failures.proofs.Printed.{had_not_failed, not_failed}
use Rattle.opc_cli_words.proofs.value.note_value.Goals as goal

pub returns-clause-noted : goal.returns-clause-noted
returns-clause-noted g c = not_failed c.print_note.result _ _ c.print_note.ensures.failed c.print_note.ensures.text

pub returns-clause-kept : goal.returns-clause-kept
returns-clause-kept g c = had_not_failed c.print_note.result _ _ c.print_note.ensures.failed
