use Rattle.std.proofs.Common.{◌≡◌, pos, rules, to_z, of_z, w64}
use Rattle.std.proofs.Math.Facts.{to_z-of_z}
use Rattle.opc_store_history.proofs.AccountRows.{account_added, account_given}
use Rattle.opc_store_history.proofs.account.add_row.Goals as goal

pub returns-clause-done : goal.returns-clause-done
returns-clause-done g c clean s was =
    let h = rw (
      c.params-to_sql.ensures,
      c.params-to_sql-2.ensures,
      c.params-to_sql-3.ensures,
      c.params-to_sql-4.ensures,
      c.params-to_sql-5.ensures,
    ) at (c.in_ok-run.ensures.ran clean).executes in
    let same : c.in-Ok.moment ≡ pos c.args.row.now.moment = search rules in
    let moment : to_z w64 (of_z w64 c.in-Ok.moment) ≡ pos c.args.row.now.moment = search (rules, to_z-of_z, same) in
    let given = account_given _ c.args.row.now _ _ _ _ _ moment c.as_str.ensures c.as_str-2.ensures c.as_str-3.ensures c.as_str-4.ensures _ _ _ h in
    account_added _ _ _ s was c.args.row.now given c.last_number-number.ensures.fits
