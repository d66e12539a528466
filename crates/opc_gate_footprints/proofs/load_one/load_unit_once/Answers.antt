use Rattle.std.proofs.Common.{rules}
use Rattle.opc_gate_footprints.proofs.Growing.{on_ok, with_unit}
use Rattle.opc_gate_footprints.proofs.load_one.load_unit_once.Goals as goal

pub returns : goal.returns
returns g c = record {
  kept = search rules;
  answers = λ sure s represents. on_ok c.add.result
      (λ makes loaded. with_unit s c.args.part.now c.args.name.now c.in_ok-unit.unit c.add.new.rows
      (c.in_ok-unit.ensures.answers sure s represents loaded) makes) c.add.ensures;
}
