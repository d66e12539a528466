use Rattle.std.proofs.Common.{rules}
use Rattle.opc_gate_footprints.proofs.Growing.{leaves, on_ok}
use Rattle.opc_gate_footprints.proofs.load_several.load_leaving.Goals as goal

pub returns : goal.returns
returns g c = record {
  kept = search rules;
  answers = λ sure s represents.
      let before = c.load_unit_once.ensures.kept.sure sure in
      on_ok c.load_unit_once.result (λ grows unit. leaves s c.args.part.now c.load_unit_once.new.part c.args.name.now
      c.in_ok-part.field-0 (c.in_ok-part.ensures.answers before s represents) (grows unit))
      (c.load_unit_once.ensures.answers sure s (c.in_ok-part.ensures.kept.same before s represents));
}
