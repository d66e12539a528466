use Rattle.std.proofs.lemmas.Result.{on_ok_weaker}
use Rattle.opc_store_schema.proofs.Cast.{text_value_is}
use Rattle.opc_store_board.proofs.ConsoleRows.{console_put}
use Rattle.opc_store_board.proofs.consoles.put_console.Goals as goal

pub returns-clause-done : goal.returns-clause-done
returns-clause-done g c clean =
    on_ok_weaker c.put.result (λ h s was. console_put g.S.Store _ _ s was c.args.console.now
    (rw (
      c.params-to_sql.ensures,
      c.params-to_sql-2.ensures,
      c.params-to_sql-3.ensures,
      c.params-to_sql-4.ensures,
      c.params-to_sql-5.ensures,
      c.params-to_sql-6.ensures,
      c.text.ensures.text,
      c.number_of.ensures,
      c.letter_of.ensures,
      text_value_is c.user_of.result,
      c.user_of.ensures,
    ) at h)) (c.put.ensures.put clean)
