use Rattle.std.proofs.Common.{◌≢◌, [], Some}
use Rattle.opc_store_schema.proofs.Ordered.{without_permission_ordered}
use Rattle.opc_store_profiles.proofs.EntryRows.{entry_goes}
use Rattle.opc_store_profiles.proofs.entries.remove_entry.Goals as goal

pub returns-clause-done : goal.returns-clause-done
returns-clause-done g c clean s was =
    let named : c.args.when ≢ Some [] = rw c.as_ref.ensures.value at c.console_text.ensures.named in
    record {
      ordered = without_permission_ordered s was.ordered c.args.class c.args.pattern.now c.args.id.now c.args.when;
      rows = entry_goes _ _ _ s was.rows c.args.class c.args.pattern.now c.args.id.now c.args.when named
          was.ordered.profiles was.ordered.entries
          (rw (
            c.params-to_sql.ensures,
            c.params-to_sql-2.ensures,
            c.params-to_sql-3.ensures,
            c.params-to_sql-4.ensures,
            c.text.ensures.text,
            c.text-2.ensures.text,
            c.text-3.ensures.text,
            c.console_text.ensures.text,
            c.as_ref.ensures.value,
          ) at (c.in_ok-run.ensures.ran clean).executes);
    }
