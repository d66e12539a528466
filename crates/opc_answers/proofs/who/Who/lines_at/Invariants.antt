use Rattle.std.proofs.Common.{◌≡◌, map, take}
use Rattle.opc_answers.specs.Who.{said_at}
use Rattle.opc_answers.proofs.who.Who.lines_at.Given as goal

abbrev pub invariant-loop-member : goal.invariant-loop-member
invariant-loop-member l = l.lines ≡ map (said_at l.self l.at) (take l.member-index l.member-items)
