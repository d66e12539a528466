use Rattle.std.proofs.Common.{◌∙◌, ap, sym}
use Rattle.opc_machine.specs.Commands.{command_or}
use Rattle.opc_gate_commands.proofs.Lines.{command_is}
use Rattle.opc_gate_commands.proofs.command.command_in.Goals as goal

pub returns-in-Ok : goal.returns-in-Ok
returns-in-Ok c = ap command_or (sym c.in-Ok.is) ∙ command_is c.args.text.now c.read_command.result c.read_command.ensures.command c.read_command.ensures.fault

pub returns-in-Err : goal.returns-in-Err
returns-in-Err c =
    rw c.of_line.ensures (ap command_or (sym c.in-Err.is)
    ∙ command_is c.args.text.now c.read_command.result c.read_command.ensures.command c.read_command.ensures.fault)
