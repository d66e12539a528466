use Rattle.std.proofs.Common.{◌≡◌, take}
use Rattle.opc_answers_diff.specs.Consoles.{names_with}
use Rattle.opc_answers_diff.proofs.consoles.add_names.Given as goal

abbrev pub invariant-loop-console : goal.invariant-loop-console
invariant-loop-console l = l.names.keys ≡ names_with (take l.console-index l.consoles) l.fn.names.keys
