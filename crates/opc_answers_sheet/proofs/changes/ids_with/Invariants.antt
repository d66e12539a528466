use Rattle.std.proofs.Common.{◌≡◌, map, take}
use Rattle.opc_answers_sheet.specs.Changes.{ids_with}
use Rattle.opc_answers_sheet.proofs.changes.ids_with.Given as goal

abbrev pub invariant-loop-caller : goal.invariant-loop-caller
invariant-loop-caller l = map (λ id. id.now) l.ids.items ≡ ids_with l.wanted l.right (take l.caller-index l.callers)
