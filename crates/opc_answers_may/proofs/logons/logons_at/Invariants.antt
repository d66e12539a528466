use Rattle.std.proofs.Common.{◌≡◌, map, take}
use Rattle.opc_answers_may.specs.Logons.{logon_at}
use Rattle.opc_answers_may.proofs.logons.logons_at.Given as goal

abbrev pub invariant-loop-console : goal.invariant-loop-console
invariant-loop-console l = l.logons.items ≡ map (logon_at l.may.room.policy l.may.member) (take l.console-index l.consoles)
