use Rattle.std.proofs.Common.{◌≡◌, filter, map, take}
use Rattle.opc_answers_diff.specs.Consoles.{change_of, says_else}
use Rattle.opc_answers_diff.proofs.consoles.changes_of.Given as goal

abbrev pub invariant-loop-name : goal.invariant-loop-name
invariant-loop-name l = l.list.items ≡ filter says_else (map (change_of l.before l.after) (take l.name-index l.names))
