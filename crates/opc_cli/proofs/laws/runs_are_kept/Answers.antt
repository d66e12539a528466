use Rattle.opc_cli.proofs.Keeping as keeping
use Rattle.opc_cli.proofs.laws.runs_are_kept.Goals as goal

pub returns : goal.returns
returns g c = keeping.runs_are_kept g.D.Disk g.W.Write.contents
