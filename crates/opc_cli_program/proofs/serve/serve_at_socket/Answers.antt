use Rattle.std.proofs.Common.{◌⊎◌, inl, inr}
use Rattle.opc_cli_program.proofs.serve.serve_at_socket.Goals as goal

pub returns-clause-serves : goal.returns-clause-serves
returns-clause-serves g c = elim c.serve_socket-end.ensures.serves [
  | inl none ↦ inl none
  | inr served ↦ inr (_, ((c.in_ok-socket.ensures.listens, c.remove.ensures), served.0), served.1)
]
