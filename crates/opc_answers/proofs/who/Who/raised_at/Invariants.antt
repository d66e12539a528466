use Rattle.std.proofs.Common.{◌≡◌, filter, map, take}
use Rattle.opc_answers.specs.declared.who.AskedAt.TheVariants.{OnBoard}
use Rattle.opc_answers.specs.Who.{is_raised_there, said_at}
use Rattle.opc_answers.proofs.who.Who.raised_at.Given as goal

abbrev pub invariant-loop-member : goal.invariant-loop-member
invariant-loop-member l =
    l.lines ≡ map (said_at l.self (OnBoard l.console)) (filter (is_raised_there l.self l.console) (take l.member-index l.member-items))
