use Rattle.std.proofs.Common.{◌≡◌, map, take}
use Rattle.std.specs.Option.{option_copied}
use Rattle.opc_answers_sheet.specs.Commands.{said_there}
use Rattle.opc_answers_sheet.proofs.commands.said_at_door.Given as goal

abbrev pub invariant-loop-member : goal.invariant-loop-member
invariant-loop-member l = l.lines.items
    ≡ map (said_there l.door (option_copied l.decided) l.need l.console) (take l.member-index l.members)
