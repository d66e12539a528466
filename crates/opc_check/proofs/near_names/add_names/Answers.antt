use Rattle.std.proofs.Common.{◌≤◌, ◌∙◌, ◌++◌, ap, arith, length, map, rules, sym, append-nil}
use Rattle.std.specs.List.{filter_map}
use Rattle.std.proofs.lemmas.List.{take_all}
use Rattle.opc_check.specs.NearNames.{name_in}
use Rattle.opc_check.proofs.Named.{more_names}
use Rattle.opc_check.proofs.near_names.add_names.Goals.{in-Some+in_ok-push, in_default}
use Rattle.opc_check.proofs.near_names.add_names.Goals as goal

pub loop-row-preserved : goal.loop-row-preserved
loop-row-preserved c =
    let next = more_names (name_in c.args.holder c.args.policy.now) (λ name. name.now) (map (λ name. name.now) c.args.names.now.items)
    c.args.rows.now c.loop-row.row-index c.row-item.result c.name_in.result c.loop-row.names.items (omega arith)
    c.row-item.is c.name_in.ensures c.loop-row.invariant in
    elim c.match-name_in.branch [
      | in-Some+in_ok-push w ↦ search (rules, next)
      | in_default w ↦ search (rules, next)
    ]
