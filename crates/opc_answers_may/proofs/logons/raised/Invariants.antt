use Rattle.std.proofs.Common.{◌≡◌, filter, take}
use Rattle.opc_answers_may.specs.Logons.{is_raised_at}
use Rattle.opc_answers_may.proofs.logons.raised.Given as goal

abbrev pub invariant-loop-logon : goal.invariant-loop-logon
invariant-loop-logon l = l.list.items ≡ filter is_raised_at (take l.logon-index l.logons)
