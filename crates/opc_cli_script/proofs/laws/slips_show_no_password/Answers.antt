use Rattle.opc_cli_script.proofs.Shown.{slips_show_no_password}
use Rattle.opc_cli_script.proofs.laws.slips_show_no_password.Goals as goal

pub returns : goal.returns
returns c = slips_show_no_password
