use Rattle.std.proofs.Common.{inr}
use Rattle.opc_cli_program.proofs.Decisions.{at_base}
use Rattle.opc_cli_program.proofs.decide.decide_socket.Goals as goal

pub returns : goal.returns
returns g c = inr (c.in_ok-print_socket.ensures.said, at_base _ _ _ _ _ _ _ _ _ _ _ _ _ c.socket_base-base.ensures c.decide_by.ensures)
