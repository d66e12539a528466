use Rattle.std.proofs.Common.{◌≡◌, filter, take}
use Rattle.opc_answers_may.specs.Logons.{is_on}
use Rattle.opc_answers_may.proofs.logons.logons_on.Given as goal

abbrev pub invariant-loop-logon : goal.invariant-loop-logon
invariant-loop-logon l = l.list.items ≡ filter (is_on l.basis) (take l.logon-index l.logons)
