use Rattle.std.proofs.Common.{◌≡◌, map, take}
use Rattle.opc_answers.specs.Logons.{door_of}
use Rattle.opc_answers.proofs.doors.all_doors.Given as goal

abbrev pub invariant-loop-console : goal.invariant-loop-console
invariant-loop-console l = l.doors.items ≡ map (door_of l.policy) (take l.console-index l.consoles)
