use Rattle.opc_machine_laws.proofs.Blocking.{act_without_obstacle, board_obstacles_are_faults}
use Rattle.opc_machine_laws.proofs.effects.commands_are_refused_by_what_is_in_their_way.Goals as goal

pub returns : goal.returns
returns c = record { refused = board_obstacles_are_faults; done = act_without_obstacle }
