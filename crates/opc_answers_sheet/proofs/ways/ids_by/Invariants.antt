use Rattle.std.proofs.Common.{◌≡◌, map, take}
use Rattle.opc_answers_sheet.specs.Ways.{ids_by}
use Rattle.opc_answers_sheet.proofs.ways.ids_by.Given as goal

abbrev pub invariant-loop-line : goal.invariant-loop-line
invariant-loop-line l = map (λ id. id.now) l.ids.items ≡ ids_by l.wanted l.way (take l.line-index l.lines)
