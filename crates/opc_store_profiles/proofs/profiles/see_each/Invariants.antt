use Rattle.std.proofs.Common.{take}
use Rattle.std.specs.List.{AllByRecursion}
use Rattle.opc_store_profiles.specs.Keys.{IsKeyed}
use Rattle.opc_store_profiles.proofs.profiles.see_each.Given as goal

abbrev pub invariant-loop-row : goal.invariant-loop-row
invariant-loop-row l = AllByRecursion IsKeyed (take l.row-index l.rows)
