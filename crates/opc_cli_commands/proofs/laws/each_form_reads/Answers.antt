use Rattle.opc_cli_commands.proofs.Worked.{forms_read}
use Rattle.opc_cli_commands.proofs.laws.each_form_reads.Goals as goal

pub returns : goal.returns
returns c = forms_read
