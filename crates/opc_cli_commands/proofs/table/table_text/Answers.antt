use Rattle.std.proofs.lemmas.List.Concat.{flat_map-append}
use Rattle.opc_cli_commands.specs.Commands.{console_forms, device_forms, display_forms, form_row, form_rows, header, unit_forms}
use Rattle.opc_cli_commands.proofs.Pieces.{added}
use Rattle.opc_cli_commands.proofs.table.table_text.Goals as goal

pub returns : goal.returns
returns c = added form_rows (flat_map-append form_row) display_forms unit_forms device_forms console_forms header _ _ _ _ _
    c.in_ok-text.ensures.ok (rw c.display_forms.ensures.forms at c.in_ok-push_rows.ensures)
    (rw c.unit_forms.ensures.forms at c.in_ok-push_rows-2.ensures)
    (rw c.device_forms.ensures.forms at c.in_ok-push_rows-3.ensures)
    (rw c.console_forms.ensures.forms at c.in_ok-push_rows-4.ensures)
