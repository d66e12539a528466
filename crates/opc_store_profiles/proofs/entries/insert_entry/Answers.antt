use Rattle.opc_store_profiles.proofs.ProfileRows.{entry_row_added}
use Rattle.opc_store_profiles.proofs.entries.insert_entry.Goals as goal

pub returns-clause-added : goal.returns-clause-added
returns-clause-added g c clean contents was =
    entry_row_added _ _ _ contents was c.args.class c.args.pattern.now c.args.entry.now
    (rw (
      c.params-to_sql.ensures,
      c.params-to_sql-2.ensures,
      c.params-to_sql-3.ensures,
      c.params-to_sql-4.ensures,
      c.params-to_sql-5.ensures,
      c.text.ensures.text,
      c.text-2.ensures.text,
      c.text-3.ensures.text,
      c.console_text.ensures.text,
      c.as_ref.ensures.value,
      c.rank_of.ensures,
    ) at
    (c.in_ok-run.ensures.ran clean).executes)
