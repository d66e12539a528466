use Rattle.std.proofs.Common.{◌≡◌, map, take}
use Rattle.std.specs.Option.{option_copied}
use Rattle.opc_answers_sheet.specs.Commands.{said_everywhere}
use Rattle.opc_answers_sheet.proofs.everywhere.said_to_all.Given as goal

abbrev pub invariant-loop-caller : goal.invariant-loop-caller
invariant-loop-caller l =
    l.lines.items ≡ map (said_everywhere (option_copied l.decided) l.level) (take l.caller-index l.callers)
