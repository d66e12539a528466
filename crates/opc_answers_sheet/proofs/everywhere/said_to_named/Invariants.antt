use Rattle.std.proofs.Common.{◌≡◌, take}
use Rattle.opc_answers_sheet.specs.Marks.{marks_in}
use Rattle.opc_answers_sheet.specs.Named.{said_to_named}
use Rattle.opc_answers_sheet.proofs.everywhere.said_to_named.Given as goal

abbrev pub invariant-loop-caller : goal.invariant-loop-caller
invariant-loop-caller l = (l.marks ≡ marks_in l.profile.entries)
    × (l.lines.items ≡ said_to_named l.profile l.level (take l.caller-index l.callers))
