use Rattle.std.proofs.Common.{◌≡◌, map, take}
use Rattle.opc_answers_diff.specs.Members.{change_by_id}
use Rattle.opc_answers_diff.proofs.members.changes_by_id.Given as goal

abbrev pub invariant-loop-id : goal.invariant-loop-id
invariant-loop-id l = l.list ≡ map (change_by_id l.before l.after) (take l.id-index l.ids)
