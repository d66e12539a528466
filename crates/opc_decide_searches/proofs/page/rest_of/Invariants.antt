use Rattle.std.proofs.Common.{◌≡◌, ◌++◌, drop}
use Rattle.opc_decide_searches.specs.Pages.{rest_of}
use Rattle.opc_decide_searches.proofs.page.rest_of.Given as goal

abbrev pub invariant-loop-candidate : goal.invariant-loop-candidate
invariant-loop-candidate l =
    l.rest.items ++ rest_of l.token (drop l.candidate-index l.found) ≡ rest_of l.token l.found
