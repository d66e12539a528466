use Rattle.opc_cli.proofs.Shutting as shutting
use Rattle.opc_cli.proofs.laws.requests_are_left_whole.Goals as goal

pub returns : goal.returns
returns g c = shutting.left_whole_files g.D.Disk
