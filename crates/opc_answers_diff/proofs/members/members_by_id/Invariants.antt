use Rattle.std.proofs.Common.{◌≡◌, ℕ, List, take}
use Rattle.std.specs.BTreeMap.{get}
use Rattle.opc_policy_members.specs.Members.{name_cmp}
use Rattle.opc_answers_diff.specs.Members.{member_in}
use Rattle.opc_answers_diff.proofs.members.members_by_id.Given as goal

abbrev pub invariant-loop-member : goal.invariant-loop-member
invariant-loop-member l = (id : List ℕ) → get name_cmp l.by_id id ≡ member_in (take l.member-index l.members) id
