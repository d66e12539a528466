use Rattle.std.proofs.Common.{[], ap, map}
use Rattle.std.specs.List.{filter_map}
use Rattle.std.proofs.lemmas.List.Elements.{filter_map-append}
use Rattle.opc_cli_commands.specs.Commands.{console_forms, device_forms, display_forms, unit_forms}
use Rattle.opc_cli_commands.specs.Operands.{operands_of}
use Rattle.opc_cli_commands.proofs.Pieces.{added}
use Rattle.opc_cli_commands.proofs.operands.operands_text.Goals as goal

pub returns : goal.returns
returns c =
    let of_verb = operands_of c.args.verb.now in
    let all = added (filter_map of_verb) (filter_map-append of_verb) display_forms unit_forms device_forms console_forms [] _ _ _ _ _
    (ap (map (λ text. text.now)) c.new-operands.ensures.items)
    (rw c.display_forms.ensures.forms at c.in_ok-push_operands.ensures)
    (rw c.unit_forms.ensures.forms at c.in_ok-push_operands-2.ensures)
    (rw c.device_forms.ensures.forms at c.in_ok-push_operands-3.ensures)
    (rw c.console_forms.ensures.forms at c.in_ok-push_operands-4.ensures)
    in
    rw (c.deref.ensures.value, all) at c.alternatives.ensures
