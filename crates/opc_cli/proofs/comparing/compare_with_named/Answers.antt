use Rattle.opc_cli.proofs.comparing.compare_with_named.Goals as goal

pub returns : goal.returns
returns g c = (c.side_from-new.result, c.side_from-new.ensures.other, c.compare_with.ensures)
