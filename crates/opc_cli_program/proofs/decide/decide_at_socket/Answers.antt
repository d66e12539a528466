use Rattle.std.proofs.Common.{◌⊎◌, inl, inr}
use Rattle.opc_cli_program.proofs.decide.decide_at_socket.Goals as goal

pub returns : goal.returns
returns g c = elim c.decide_socket-end.ensures [
  | inl none ↦ inl none
  | inr served ↦ inr (_, ((c.in_ok-socket.ensures.listens, c.remove.ensures), served.0), served.1)
]
