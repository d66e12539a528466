use Rattle.std.proofs.lemmas.Result.{on_ok_weaker}
use Rattle.opc_store_schema.specs.State.{IsNamed}
use Rattle.opc_store_profiles.proofs.EntryRows.{entry_put}
use Rattle.opc_store_profiles.proofs.entries.put_entry.Goals as goal

pub returns-clause-done : goal.returns-clause-done
returns-clause-done g c clean =
    let named : IsNamed c.args.entry.now = rw c.as_ref.ensures.value at c.console_text.ensures.named in
    on_ok_weaker c.put.result (λ h s was. entry_put g.S.Store _ _ s was c.args.class c.args.pattern.now c.args.entry.now
    named (rw (
      c.params-to_sql.ensures,
      c.params-to_sql-2.ensures,
      c.params-to_sql-3.ensures,
      c.params-to_sql-4.ensures,
      c.params-to_sql-5.ensures,
      c.text.ensures.text,
      c.text-2.ensures.text,
      c.text-3.ensures.text,
      c.console_text.ensures.text,
      c.as_ref.ensures.value,
      c.rank_of.ensures,
    ) at h))
    (c.put.ensures.put clean)
