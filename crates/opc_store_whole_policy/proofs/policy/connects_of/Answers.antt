use Rattle.std.proofs.Common.{◌∙◌, sym}
use Rattle.std.proofs.lemmas.List.{map-id}
use Rattle.opc_store_sql.proofs.Putting.{more_inserted}
use Rattle.opc_policy_members.specs.Members.{connect_cmp}
use Rattle.opc_store_schema.proofs.Keys.{connect_total, same_connect}
use Rattle.opc_store_whole_policy.proofs.policy.connects_of.Goals as goal

pub loop-connect-preserved : goal.loop-connect-preserved
loop-connect-preserved c up =
    let xs = c.args.list.now in
    c.in_ok-insert.ensures.ok
    ∙ more_inserted connect_cmp connect_total (λ x. x) xs up xs c.loop-connect.connect-index c.connect-item.result
    (sym (map-id xs)) c.loop-connect-test.true c.connect-item.is c.loop-connect.connects c.connect-item.result
    (λ x is. is) (c.loop-connect.invariant up) same_connect
