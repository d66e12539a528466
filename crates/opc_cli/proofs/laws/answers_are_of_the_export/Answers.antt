use Rattle.opc_cli.proofs.Readings.{answers_exported}
use Rattle.opc_cli.proofs.laws.answers_are_of_the_export.Goals as goal

pub returns : goal.returns
returns g c = answers_exported g.D.Disk g.W.Write.contents
