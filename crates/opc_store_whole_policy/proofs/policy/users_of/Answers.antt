use Rattle.std.proofs.Common.{◌∙◌, sym}
use Rattle.std.proofs.lemmas.List.{map-id}
use Rattle.opc_store_sql.proofs.Putting.{more_put}
use Rattle.opc_policy_members.specs.Members.{user_cmp}
use Rattle.opc_store_schema.proofs.Keys.{user_total}
use Rattle.opc_store_whole_policy.proofs.policy.users_of.Goals as goal

pub loop-user-preserved : goal.loop-user-preserved
loop-user-preserved c up =
    let xs = c.args.list.now in
    c.in_ok-insert.ensures.ok
    ∙ more_put user_cmp user_total (λ x. x) xs up xs c.loop-user.user-index c.user-item.result (sym (map-id xs))
    c.loop-user-test.true c.user-item.is c.loop-user.users c.user-item.result (λ x is. is)
    (c.loop-user.invariant up)
