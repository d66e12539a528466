use Rattle.std.proofs.Common.{◌≡◌, take}
use Rattle.opc_answers_diff.specs.Members.{changed_ids}
use Rattle.opc_answers_diff.proofs.members.changed_ids.Given as goal

abbrev pub invariant-loop-member : goal.invariant-loop-member
invariant-loop-member l = l.ids.items ≡ changed_ids (take l.member-index l.members)
