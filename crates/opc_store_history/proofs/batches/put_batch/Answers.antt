use Rattle.std.proofs.Common.{◌≡◌, ◌≤◌, ℕ, List, length, Ok, arith, ap, subst, rules, ◌∙◌}
use Rattle.sqlite.specs.Held.{state}
use Rattle.sqlite.specs.State.{HasCleanDisk}
use Rattle.opc_import.specs.Files.{policy_of}
use Rattle.opc_import.specs.Lines.{policy_text}
use Rattle.opc_policy_members.specs.declared.row.Row.{Row}
use Rattle.opc_store_schema.specs.State.{IsReadBack}
use Rattle.opc_store_history.proofs.BatchRows.{removes_batch, inserts_batch, batch_given}
use Rattle.opc_store_schema.proofs.OrderedBoard.{with_batch_ordered}
use Rattle.opc_store_history.proofs.batches.put_batch.Goals as goal

pub returns-clause-done : goal.returns-clause-done
returns-clause-done g c clean s was =
    let early : HasCleanDisk (state g.S.Store c.run.new.tx.conn.now) = omega (arith, c.in_ok-run-2.ensures.stays.survives.clean) in
    let batch = c.args.batch.now in
    let gone = removes_batch _ _ _ s was.rows was.ordered.batches batch.number (rw c.params-to_sql.ensures at (c.in_ok-run.ensures.ran early).executes) in
    let rows_are = c.as_slice-rows.ensures in
    let few : length c.as_slice-rows.result.now ≤ 10000 = search rules in
    let text_is = c.in_ok-text.ensures.text in
    let back = c.in_ok-text.ensures.reads_back few in
    let again : IsReadBack batch = subst (λ (rows : List Row). policy_of (policy_text rows) ≡ Ok rows) rows_are
    (subst (λ (text : List ℕ). policy_of text ≡ Ok c.as_slice-rows.result.now) text_is back) in
    let same = c.as_str.ensures.value ∙ (text_is ∙ ap policy_text rows_are) in
    record {
      ordered = with_batch_ordered s was.ordered batch again;
      rows = inserts_batch _ _ _ s batch was.ordered.batches gone
          (batch_given _ batch _ same _ _ _
          (rw (c.params-to_sql-2.ensures, c.params-to_sql-3.ensures) at (c.in_ok-run-2.ensures.ran clean).executes));
    }
