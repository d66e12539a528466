use Rattle.std.proofs.Common.{◌∙◌, sym}
use Rattle.std.proofs.lemmas.List.{map-id}
use Rattle.opc_store_sql.proofs.Putting.{more_inserted}
use Rattle.opc_policy_members.specs.Members.{name_cmp}
use Rattle.opc_store_schema.proofs.Keys.{group_total, same_name}
use Rattle.opc_store_whole_policy.proofs.policy.groups_of.Goals as goal

pub loop-name-preserved : goal.loop-name-preserved
loop-name-preserved c up =
    let xs = c.args.list.now in
    c.in_ok-insert.ensures.ok
    ∙ more_inserted name_cmp group_total (λ x. x) xs up xs c.loop-name.name-index c.name-item.result (sym (map-id xs))
    c.loop-name-test.true c.name-item.is c.loop-name.groups c.name-item.result (λ x is. is)
    (c.loop-name.invariant up) same_name
