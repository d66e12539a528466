use Rattle.std.proofs.Common.{rules}
use Rattle.opc_gate_commands.proofs.Allowed.{refused_outcome}
use Rattle.opc_gate_commands.proofs.command.effect_on.Goals as goal

pub returns-in-Err : goal.returns-in-Err
returns-in-Err g c = record {
  kept = search rules;
  answers = λ sure s represents.
      let footprint = c.in_ok-board.ensures.footprint.answers sure s represents in
      rw c.refused.ensures (λ at unit stands. refused_outcome s c.args.console.now c.args.command.now c.args.rule c.in-Err.fault _
      (c.in-Err.ensures.refused c.in_ok-board_fault-in-Err.ensures.0 s (footprint at unit)) c.in_ok-board_fault-in-Err.ensures.1);
}
