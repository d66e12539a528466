use Rattle.std.proofs.Common.{rules}
use Rattle.opc_gate_footprints.proofs.Growing.{on_ok, held_device}
use Rattle.opc_gate_footprints.proofs.load_one.load_device.Goals as goal

pub returns : goal.returns
returns g c = record {
  kept = search rules;
  answers = λ sure s represents.
      let before = c.in_ok-load_holder.ensures.kept.sure sure in
      let holder = c.in_ok-load_holder.ensures.answers sure s (c.in_ok-device.ensures.kept.same before s represents) in
      on_ok c.add.result (held_device s c.args.part.now c.load_holder.new.part c.args.number.now c.in_ok-device.device
      c.add.new.rows holder (c.in_ok-device.ensures.answers before s represents)) c.add.ensures;
}
