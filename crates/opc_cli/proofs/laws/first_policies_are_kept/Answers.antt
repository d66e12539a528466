use Rattle.opc_cli.proofs.Keeping as keeping
use Rattle.opc_cli.proofs.laws.first_policies_are_kept.Goals as goal

pub returns : goal.returns
returns g c = record {
  taken = keeping.first_policies_are_kept g.D.Disk g.W.Write.contents;
  refused = keeping.refused_change_nothing g.D.Disk g.W.Write.contents;
}
