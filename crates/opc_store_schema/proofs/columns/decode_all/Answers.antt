use Rattle.std.proofs.Common.{◌∙◌}
use Rattle.opc_store_sql.proofs.Decoded.{more_taken}
use Rattle.opc_store_schema.proofs.columns.decode_all.Goals as goal

pub loop-row-preserved : goal.loop-row-preserved
loop-row-preserved g c xs are =
    c.in_ok-push.ensures.ok
    ∙ more_taken g.T.TableRow.row_of xs c.args.rows.now c.loop-row.members c.loop-row.row-index c.row-item.result
    c.in_ok-decode.field-0 are c.loop-row-test.true c.row-item.is c.in_ok-decode.ensures
    (c.loop-row.invariant xs are)
