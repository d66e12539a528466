use Rattle.std.proofs.Common.{◌≡◌, take}
use Rattle.opc_answers_diff.specs.Verdicts.{consoles_with}
use Rattle.opc_answers_diff.proofs.verdicts.add_consoles.Given as goal

abbrev pub invariant-loop-entry : goal.invariant-loop-entry
invariant-loop-entry l = l.consoles.keys ≡ consoles_with (take l.entry-index l.entries) l.fn.consoles.keys
