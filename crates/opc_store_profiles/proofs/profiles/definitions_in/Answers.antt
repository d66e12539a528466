use Rattle.std.proofs.Common.{◌∙◌}
use Rattle.opc_store_sql.proofs.Decoded.{more_returned}
use Rattle.opc_state.specs.Loads.{bare}
use Rattle.opc_store_schema.specs.Represented.{profile_row}
use Rattle.opc_store_profiles.proofs.profiles.definitions_in.Goals as goal

pub loop-row-preserved : goal.loop-row-preserved
loop-row-preserved c profiles are =
    c.in_ok-push.ensures.items
    ∙ more_returned profile_row bare profiles c.args.rows.now c.loop-row.definitions.items c.loop-row.row-index
    c.row-item.result c.in_ok-profile_in.field-0 are c.loop-row-test.true c.row-item.is c.in_ok-profile_in.ensures.read
    (c.loop-row.invariant profiles are)
