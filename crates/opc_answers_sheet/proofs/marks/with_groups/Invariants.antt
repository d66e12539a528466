use Rattle.std.proofs.Common.{◌≡◌, drop}
use Rattle.opc_answers_sheet.specs.Marks.{marked}
use Rattle.opc_answers_sheet.proofs.marks.with_groups.Given as goal

abbrev pub invariant-loop-group : goal.invariant-loop-group
invariant-loop-group l = marked l.all (drop l.group-index l.groups) ≡ marked l.marks l.groups
