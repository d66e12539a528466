use Rattle.std.proofs.Common.{◌≡◌, take}
use Rattle.opc_answers_diff.specs.Members.{ids_with}
use Rattle.opc_answers_diff.proofs.members.add_ids.Given as goal

abbrev pub invariant-loop-member : goal.invariant-loop-member
invariant-loop-member l = l.ids.keys ≡ ids_with (take l.member-index l.members) l.fn.ids.keys
