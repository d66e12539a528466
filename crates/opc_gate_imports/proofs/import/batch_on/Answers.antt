use Rattle.std.proofs.Common.{◌≡◌, Some, None, sym, ◌∙◌, rules}
use Rattle.opc_state.specs.Loads.{batch_rows}
use Rattle.opc_gate_imports.proofs.Importing.{is_kept, is_new}
use Rattle.opc_gate_imports.proofs.import.batch_on.Goals as goal

pub returns-in-None : goal.returns-in-None
returns-in-None g c = record {
  kept = search rules;
  answers = λ sure s represents.
      let one = c.new_batch.ensures.kept.sure sure in
      let unknown : batch_rows s.batches c.args.number ≡ None = sym (c.in_ok-batch.ensures.answers one s represents) ∙ c.in-None.is in
      is_new s c.args.number c.args.rows.now c.new_batch.result unknown (c.new_batch.ensures.answers sure s (c.in_ok-batch.ensures.kept.same one s represents));
}

pub returns-in-Some : goal.returns-in-Some
returns-in-Some g c = record {
  kept = search rules;
  answers = λ sure s represents.
      let known : batch_rows s.batches c.args.number ≡ Some c.in-Some.kept = sym (c.in_ok-batch.ensures.answers sure s represents) ∙ c.in-Some.is in
      is_kept s c.args.number c.args.rows.now c.in-Some.kept c.same_batch.result known (rw c.as_slice.ensures at (c.same_batch.ensures s));
}
