use Rattle.std.proofs.Common.{◌≡◌, ◌++◌, map, take}
use Rattle.std.specs.List.{filter_map}
use Rattle.opc_check.specs.NearNames.{name_in}
use Rattle.opc_check.proofs.near_names.add_names.Given as goal

abbrev pub invariant-loop-row : goal.invariant-loop-row
invariant-loop-row l = map (λ name. name.now) l.names.items
    ≡ map (λ name. name.now) l.fn.names.items ++ filter_map (name_in l.holder l.policy) (take l.row-index l.rows)
