use Rattle.opc_cli_script.proofs.ReadBack.{reads_back}
use Rattle.opc_cli_script.proofs.laws.events_read_back.Goals as goal

pub returns : goal.returns
returns c = reads_back
