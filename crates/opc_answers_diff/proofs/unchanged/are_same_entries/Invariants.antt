use Rattle.std.proofs.Common.{◌≡◌, ◌++◌, take}
use Rattle.opc_answers_diff.proofs.unchanged.are_same_entries.Given as goal

abbrev pub invariant-loop-entry : goal.invariant-loop-entry
invariant-loop-entry l = l.other ≡ take l.entry-index l.one ++ l.left
