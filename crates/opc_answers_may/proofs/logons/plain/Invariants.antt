use Rattle.std.proofs.Common.{◌≡◌, filter, take}
use Rattle.opc_answers_may.specs.Logons.{is_plain}
use Rattle.opc_answers_may.proofs.logons.plain.Given as goal

abbrev pub invariant-loop-logon : goal.invariant-loop-logon
invariant-loop-logon l = l.list.items ≡ filter is_plain (take l.logon-index l.logons)
