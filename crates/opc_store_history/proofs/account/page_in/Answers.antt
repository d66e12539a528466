use Rattle.std.proofs.Common.{◌∙◌}
use Rattle.opc_store_sql.proofs.Decoded.{more_taken}
use Rattle.opc_store_history.specs.Loads.{numbered_shown}
use Rattle.opc_store_history.proofs.account.page_in.Goals as goal

pub loop-row-preserved : goal.loop-row-preserved
loop-row-preserved c page are =
    c.in_ok-push.ensures.items
    ∙ more_taken numbered_shown page c.args.rows.now c.loop-row.page.items c.loop-row.row-index c.row-item.result
    c.in_ok-numbered_in.field-0 are c.loop-row-test.true c.row-item.is c.in_ok-numbered_in.ensures
    (c.loop-row.invariant page are)
