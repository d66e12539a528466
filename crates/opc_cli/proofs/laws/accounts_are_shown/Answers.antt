use Rattle.opc_cli.proofs.Readings.{accounts_shown}
use Rattle.opc_cli.proofs.laws.accounts_are_shown.Goals as goal

pub returns : goal.returns
returns g c = accounts_shown g.D.Disk g.W.Write.contents
