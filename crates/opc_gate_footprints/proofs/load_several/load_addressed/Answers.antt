use Rattle.std.proofs.Common.{rules}
use Rattle.opc_gate_footprints.proofs.Growing.{addresses, on_ok}
use Rattle.opc_gate_footprints.proofs.load_several.load_addressed.Goals as goal

pub returns : goal.returns
returns g c = record {
  kept = search rules;
  answers = λ sure s represents.
      let before = c.load_unit.ensures.kept.sure sure in
      on_ok c.load_unit.result (addresses s c.args.part.now c.load_unit.new.part c.args.user.now c.in_ok-part.field-0
      (c.in_ok-part.ensures.answers before s represents))
      (rw c.session_of.ensures at c.load_unit.ensures.answers sure s (c.in_ok-part.ensures.kept.same before s represents));
}
