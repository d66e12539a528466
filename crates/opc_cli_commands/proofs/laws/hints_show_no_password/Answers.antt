use Rattle.std.proofs.Common.{refl}
use Rattle.opc_cli_commands.proofs.laws.hints_show_no_password.Goals as goal

pub returns : goal.returns
returns c = record { upper = λ one other. refl; lower = λ one other. refl }
