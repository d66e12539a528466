use Rattle.std.proofs.lemmas.Result.{on_ok_weaker}
use Rattle.opc_store_schema.proofs.Cast.{text_value_is}
use Rattle.opc_store_board.proofs.UnitRows.{unit_put}
use Rattle.opc_store_board.proofs.units.put_unit.Goals as goal

pub returns-clause-done : goal.returns-clause-done
returns-clause-done g c clean =
    on_ok_weaker c.put.result (λ h s was. unit_put g.S.Store _ _ s was c.args.unit.now
    (rw (
      c.params-to_sql.ensures,
      c.params-to_sql-2.ensures,
      c.params-to_sql-3.ensures,
      c.params-to_sql-4.ensures,
      c.params-to_sql-5.ensures,
      c.params-to_sql-6.ensures,
      c.text.ensures.text,
      c.letter_of.ensures,
      text_value_is c.member_of.result,
      c.member_of.ensures,
      text_value_is c.last_text_of.result,
      c.last_text_of.ensures,
    ) at h)) (c.put.ensures.put clean)
