use Rattle.std.proofs.Common.{rules}
use Rattle.opc_gate_footprints.proofs.Footprints.{event_footprint, if_ok}
use Rattle.opc_gate_footprints.proofs.footprint.event_footprint_on.Goals as goal

pub returns : goal.returns
returns g c = record {
  kept = search rules;
  answers = λ sure s represents.
      if_ok c.board_of.result (λ board is. event_footprint s c.args.event.now c.keys_of_event.result c.in_ok-part.part
      board c.keys_of_event.ensures (c.in_ok-part.ensures.answers sure s represents tt) is) c.board_of.ensures;
}
