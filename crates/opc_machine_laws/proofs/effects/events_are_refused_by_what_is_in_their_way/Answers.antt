use Rattle.opc_machine_laws.proofs.Blocking.{event_obstacles_are_faults, happen_without_obstacle}
use Rattle.opc_machine_laws.proofs.effects.events_are_refused_by_what_is_in_their_way.Goals as goal

pub returns : goal.returns
returns c = record { refused = event_obstacles_are_faults; done = happen_without_obstacle }
