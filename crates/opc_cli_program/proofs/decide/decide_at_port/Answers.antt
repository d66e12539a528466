use Rattle.std.proofs.Common.{◌∙◌, inr}
use Rattle.opc_cli_program.proofs.Decisions.{at_base, from_there}
use Rattle.opc_cli_program.proofs.decide.decide_at_port.Goals as goal

pub returns : goal.returns
returns g c =
    inr (
      c.in_ok-listener.listener,
      c.in_ok-listener.given,
      (c.in_ok-listener.ensures.listens, c.in_ok-print_port.ensures.said),
      at_base _ _ _ _ _ _ _ _ _ _ _ _ _ (c.as_str.ensures.value ∙ c.in_ok-base.ensures.base)
          (from_there _ _ _ _ _ _ _ _ _ _ _ _ _ c.origins_at-origins.ensures c.decide_by.ensures),
    )
