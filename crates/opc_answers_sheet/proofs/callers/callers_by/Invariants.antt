use Rattle.std.proofs.Common.{◌≡◌, map, take}
use Rattle.opc_answers_sheet.specs.Callers.{caller_of}
use Rattle.opc_answers_sheet.proofs.callers.callers_by.Given as goal

abbrev pub invariant-loop-member : goal.invariant-loop-member
invariant-loop-member l =
    l.callers.items ≡ map (caller_of l.room.policy l.room.board) (take l.member-index l.member-items)
