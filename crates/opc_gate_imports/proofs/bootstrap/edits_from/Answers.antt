use Rattle.opc_gate_imports.proofs.bootstrap.edits_from.Goals as goal

pub returns : goal.returns
returns c = record {
  first = c.in_ok-edits.edits.items;
  all = c.in_ok-add_edits.ensures;
  sound = c.rows-rows.ensures.invariants;
  becomes = c.in_ok-edits.ensures.becomes;
  idle = c.in_ok-edits.ensures.idle;
}
