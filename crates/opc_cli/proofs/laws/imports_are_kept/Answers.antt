use Rattle.opc_cli.proofs.Keeping as keeping
use Rattle.opc_cli.proofs.laws.imports_are_kept.Goals as goal

pub returns : goal.returns
returns g c = record {
  at_console = keeping.imports_are_kept g.D.Disk g.W.Write.contents;
  first = keeping.first_imports_are_kept g.D.Disk g.W.Write.contents;
}
