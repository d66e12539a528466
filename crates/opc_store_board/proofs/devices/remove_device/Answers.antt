use Rattle.opc_store_board.proofs.DeviceRows.{device_removed}
use Rattle.opc_store_board.proofs.devices.remove_device.Goals as goal

pub returns-clause-done : goal.returns-clause-done
returns-clause-done g c clean s was =
    device_removed _ _ _ s was c.args.number.now (rw (c.params-to_sql.ensures, c.text.ensures.text) at (c.in_ok-run.ensures.ran clean).executes)
