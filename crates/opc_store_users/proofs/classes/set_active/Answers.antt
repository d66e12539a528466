use Rattle.opc_store_users.proofs.ClassRows.{sets_class, class_params}
use Rattle.opc_store_schema.proofs.Ordered.{active_ordered}
use Rattle.opc_store_users.proofs.classes.set_active.Goals as goal

pub returns-clause-done : goal.returns-clause-done
returns-clause-done g c clean s was =
    record {
      ordered = active_ordered s was.ordered c.args.class c.args.active;
      rows = sets_class _ _ _ s was.rows c.args.class c.args.active
          (class_params _ _ c.args.class c.args.active c.text.ensures.text _ _ _
          (rw (c.params-to_sql.ensures, c.params-to_sql-2.ensures) at (c.in_ok-run.ensures.ran clean).executes));
    }
