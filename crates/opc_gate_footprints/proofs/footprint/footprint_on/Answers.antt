use Rattle.std.proofs.Common.{rules}
use Rattle.opc_gate_footprints.proofs.Footprints.{if_ok, footprint}
use Rattle.opc_gate_footprints.proofs.footprint.footprint_on.Goals as goal

pub returns-clause-footprint : goal.returns-clause-footprint
returns-clause-footprint g c = record {
  kept = search rules;
  answers = λ sure s represents.
      if_ok c.board_of.result (λ board is at unit. footprint s c.args.command.now c.args.console.now.name
      c.keys_of_command.result c.in_ok-part.part c.add_console.new.part board c.keys_of_command.ensures
      (c.in_ok-part.ensures.answers sure s represents unit) (c.in_ok-add_console.ensures.footprint s at) is) c.board_of.ensures;
}
