use Rattle.std.proofs.Common.{◌≡◌, map, take}
use Rattle.opc_answers.specs.Made.{member_of}
use Rattle.opc_answers.proofs.members.members_made.Given as goal

abbrev pub invariant-loop-user : goal.invariant-loop-user
invariant-loop-user l = l.members ≡ map (member_of l.connects) (take l.user-index l.users)
