use Rattle.std.proofs.Common.{◌∙◌, ap}
use Rattle.opc_cli_program.proofs.Decisions.{listens_somewhere}
use Rattle.opc_cli.proofs.deciding.serve_policy.Goals as goal

pub returns : goal.returns
returns g c = record {
  place = c.new-policy.result.0;
  decider = c.new-policy.result.1;
  path = ap (λ policy. policy.0.path.now) c.new-policy.ensures ∙ c.new-place.ensures.path;
  limit = ap (λ policy. policy.0.limit) c.new-policy.ensures ∙ c.new-place.ensures.limit;
  serves =
      listens_somewhere _ _ _ _ _ _ _ c.args.decide.now c.serve_decisions.result _ _ _ _ _ _
      (λ asked listener port said. said.1) (λ path mode socket said. said.1) c.args.decide.now.clients.address
      c.serve_decisions.ensures;
}
