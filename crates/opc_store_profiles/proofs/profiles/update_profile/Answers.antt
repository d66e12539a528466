use Rattle.std.proofs.lemmas.Result.{IfOk-weaker}
use Rattle.opc_store_profiles.proofs.ProfileRows.{profile_defined, profile_missed}
use Rattle.opc_store_profiles.proofs.profiles.update_profile.Goals as goal

pub returns-clause-set : goal.returns-clause-set
returns-clause-set g c clean = IfOk-weaker c.run.result _ _
    (λ n ran some s was. profile_defined _ _ n s c.args.profile.now c.sort_key-key.ensures.valid was
    (rw (
      c.params-to_sql.ensures,
      c.params-to_sql-2.ensures,
      c.params-to_sql-3.ensures,
      c.params-to_sql-4.ensures,
      c.params-to_sql-5.ensures,
      c.params-to_sql-6.ensures,
      c.params-to_sql-7.ensures,
      c.text.ensures.text,
      c.text-2.ensures.text,
      c.text-3.ensures.text,
      c.rank_of.ensures,
      c.as_slice.ensures.value,
      c.sort_key-key.ensures.key,
      c.head.ensures,
    ) at ran.executes) some) (c.run.ensures.ran clean)

pub returns-clause-missed : goal.returns-clause-missed
returns-clause-missed g c clean =
    IfOk-weaker c.run.result _ _ (λ n ran none s was.
    let it = profile_missed _ _ n s c.args.profile.now was.rows was.ordered.profiles
    (rw (
      c.params-to_sql.ensures,
      c.params-to_sql-2.ensures,
      c.params-to_sql-3.ensures,
      c.params-to_sql-4.ensures,
      c.params-to_sql-5.ensures,
      c.params-to_sql-6.ensures,
      c.params-to_sql-7.ensures,
      c.text.ensures.text,
      c.text-2.ensures.text,
      c.text-3.ensures.text,
      c.rank_of.ensures,
      c.as_slice.ensures.value,
      c.sort_key-key.ensures.key,
      c.head.ensures,
    ) at ran.executes) none in
    (it.0, record { ordered = was.ordered; rows = it.1 })) (c.run.ensures.ran clean)
