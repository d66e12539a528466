use Rattle.std.proofs.Common.{◌≡◌, ◌++◌, drop}
use Rattle.opc_decide_searches.specs.Found.{nobody_at}
use Rattle.opc_decide_searches.proofs.finding.nobody_candidates.Given as goal

abbrev pub invariant-loop-console : goal.invariant-loop-console
invariant-loop-console l =
    l.list.items ++ nobody_at (drop l.console-index l.consoles) ≡ nobody_at l.consoles
