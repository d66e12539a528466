use Rattle.opc_machine_laws.proofs.Hindering.{done_without_obstacle, obstacles_are_faults}
use Rattle.opc_machine_laws.proofs.laws.operations_are_refused_by_what_is_in_their_way.Goals as goal

pub returns : goal.returns
returns c = record { refused = obstacles_are_faults; done = done_without_obstacle }
