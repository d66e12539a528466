use Rattle.opc_embedded.proofs.comparing.compare_with_text.Goals as goal

pub returns : goal.returns
returns g c = (c.side_of-new.result, c.side_of-new.ensures, c.compare_with.ensures)
