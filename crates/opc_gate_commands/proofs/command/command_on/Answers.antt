use Rattle.std.proofs.Common.{subst, sym, ◌∙◌, rules}
use Rattle.opc_gate_rulings.specs.Requester.{IsConsoleFor}
use Rattle.opc_gate_commands.proofs.Typed.{typed_at}
use Rattle.opc_gate_commands.proofs.command.command_on.Goals as goal

pub returns-in-Ok-command_in : goal.returns-in-Ok-command_in
returns-in-Ok-command_in g c = record {
  kept = search rules;
  answers = λ sure s represents.
      typed_at s c.args.console c.in-Ok.console c.in-Ok-command_in.command c.args.text.now c.typed.result (rw c.in-Ok.is at c.console_for.ensures.row)
      (λ name at. subst (IsConsoleFor s name) c.in-Ok.is (c.console_for.ensures.console s name at))
      (sym c.command_in.ensures ∙ c.in-Ok-command_in.is) (c.typed.ensures.answers sure s represents);
}
