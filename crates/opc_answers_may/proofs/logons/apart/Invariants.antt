use Rattle.std.proofs.Common.{◌≡◌, ◌∷◌, filter, map, take}
use Rattle.opc_answers_may.specs.Logons.{alone, is_plain}
use Rattle.opc_answers_may.proofs.logons.apart.Given as goal

abbrev pub invariant-loop-logon : goal.invariant-loop-logon
invariant-loop-logon l = l.groups ≡ filter is_plain l.logons ∷ map alone (take l.logon-index l.logon-items)
