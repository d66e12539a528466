use Rattle.std.proofs.Common.{◌≡◌, [], take}
use Rattle.opc_answers_sheet.specs.Ways.{groups_after}
use Rattle.opc_answers_sheet.proofs.ways.groups_of.Given as goal

abbrev pub invariant-loop-line : goal.invariant-loop-line
invariant-loop-line l = l.groups.keys ≡ groups_after (take l.line-index l.lines) []
