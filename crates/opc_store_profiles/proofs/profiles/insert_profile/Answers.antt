use Rattle.opc_store_profiles.proofs.ProfileRows.{profile_added}
use Rattle.opc_store_profiles.proofs.profiles.insert_profile.Goals as goal

pub returns-clause-added : goal.returns-clause-added
returns-clause-added g c clean s was =
    profile_added _ _ _ s c.args.profile.now was.rows
    (rw (
      c.params-to_sql.ensures,
      c.params-to_sql-2.ensures,
      c.params-to_sql-3.ensures,
      c.params-to_sql-4.ensures,
      c.params-to_sql-5.ensures,
      c.params-to_sql-6.ensures,
      c.params-to_sql-7.ensures,
      c.text.ensures.text,
      c.text-2.ensures.text,
      c.text-3.ensures.text,
      c.rank_of.ensures,
      c.as_slice.ensures.value,
      c.sort_key-key.ensures.key,
      c.head.ensures,
    ) at (c.in_ok-run.ensures.ran clean).executes)
