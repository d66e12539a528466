use Rattle.std.proofs.Common.{◌≡◌, map, take}
use Rattle.std.specs.Option.{option_copied}
use Rattle.opc_answers_sheet.specs.Consoles.{logon_said}
use Rattle.opc_answers_sheet.proofs.consoles.said_of_logons.Given as goal

abbrev pub invariant-loop-member : goal.invariant-loop-member
invariant-loop-member l =
    l.lines.items ≡ map (logon_said (option_copied l.decided) l.console) (take l.member-index l.members)
