use Rattle.opc_machine_laws.proofs.RowObstacles.{masters_or_refused, row_obstacles_are_faults, without_obstacle}
use Rattle.opc_machine_laws.proofs.rows.rows_are_refused_by_their_first_obstacle.Goals as goal

pub returns : goal.returns
returns c = record { taken = without_obstacle; refused = row_obstacles_are_faults; master = masters_or_refused }
