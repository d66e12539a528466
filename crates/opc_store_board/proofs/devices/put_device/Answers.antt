use Rattle.std.proofs.lemmas.Result.{on_ok_weaker}
use Rattle.opc_store_schema.proofs.Cast.{text_value_is}
use Rattle.opc_store_board.proofs.DeviceRows.{device_put}
use Rattle.opc_store_board.proofs.devices.put_device.Goals as goal

pub returns-clause-done : goal.returns-clause-done
returns-clause-done g c clean =
    on_ok_weaker c.put.result (λ h s was. device_put g.S.Store _ _ s was c.args.device.now
    (rw (
      c.params-to_sql.ensures,
      c.params-to_sql-2.ensures,
      c.params-to_sql-3.ensures,
      c.params-to_sql-4.ensures,
      c.text.ensures.text,
      text_value_is c.volume_of.result,
      c.volume_of.ensures,
      text_value_is c.unit_of.result,
      c.unit_of.ensures,
    ) at h)) (c.put.ensures.put clean)
