use Rattle.std.proofs.Common.{◌≡◌, ◌++◌, drop}
use Rattle.opc_decide_searches.specs.Found.{as_resources}
use Rattle.opc_decide_searches.proofs.finding.console_candidates.Given as goal

abbrev pub invariant-loop-console : goal.invariant-loop-console
invariant-loop-console l =
    l.list.items ++ as_resources (drop l.console-index l.consoles) ≡ as_resources l.consoles
