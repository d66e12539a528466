use Rattle.std.proofs.Common.{refl, rules}
use Rattle.opc_gate_imports.proofs.Importing.{kept_changes, kept_makes}
use Rattle.opc_gate_imports.proofs.import.new_batch.Goals as goal

pub returns : goal.returns
returns g c = record {
  kept = search rules;
  answers = λ sure s represents unknown.
      let founded = c.in-Ok.ensures.made.answers sure s represents in
      let n = c.args.number in
      let all = c.args.rows.now in
      record {
        makes = kept_makes s n all all c.in-Ok.edits.items _ refl c.in_ok-keep.ensures founded _ c.in_ok-lines.ensures;
        idle = λ same. absurd (kept_changes s n all all c.in-Ok.edits.items _ refl c.in_ok-keep.ensures unknown same);
      };
}
