use Rattle.std.proofs.Common.{rules}
use Rattle.opc_gate_footprints.proofs.Footprints.{console_footprint, if_ok}
use Rattle.opc_gate_footprints.proofs.footprint.console_footprint_on.Goals as goal

pub returns-clause-footprint : goal.returns-clause-footprint
returns-clause-footprint g c = record {
  kept = search rules;
  answers = λ sure s represents.
      if_ok c.board_of.result (λ board is at. console_footprint s c.args.console.now.name c.nothing-part.result c.add_console.new.part board
      (c.in_ok-is_halted.ensures.keyed sure s represents)
      (c.nothing-part.ensures.part s (c.in_ok-is_halted.ensures.halted.answers sure s represents))
      (c.in_ok-add_console.ensures.footprint s at) is) c.board_of.ensures;
}
