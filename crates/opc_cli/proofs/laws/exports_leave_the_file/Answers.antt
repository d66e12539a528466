use Rattle.opc_cli.proofs.Keeping as keeping
use Rattle.opc_cli.proofs.laws.exports_leave_the_file.Goals as goal

pub returns : goal.returns
returns g c = keeping.exports_leave g.D.Disk g.W.Write.contents
