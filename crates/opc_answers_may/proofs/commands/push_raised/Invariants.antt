use Rattle.std.proofs.Common.{◌≡◌, ◌++◌, filter, map, take}
use Rattle.opc_answers_may.specs.Commands.{is_raised_there, raised_at}
use Rattle.opc_answers_may.proofs.commands.push_raised.Given as goal

abbrev pub invariant-loop-console : goal.invariant-loop-console
invariant-loop-console l = l.sections ≡ l.initial.sections ++ map (raised_at l.room.policy l.room.board l.profile l.member)
    (filter (is_raised_there l.profile l.member) (take l.console-index l.console-items))
