use Rattle.std.proofs.Common.{◌≡◌, ◌++◌, take}
use Rattle.opc_answers_diff.proofs.verdicts.add_all.Given as goal

abbrev pub invariant-loop-change : goal.invariant-loop-change
invariant-loop-change l = l.list.items ≡ l.fn.list.items ++ take l.change-index l.more
