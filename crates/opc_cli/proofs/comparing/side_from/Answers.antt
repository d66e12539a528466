use Rattle.opc_cli.proofs.comparing.side_from.Goals as goal

pub returns-in-File-clause-side : goal.returns-in-File-clause-side
returns-in-File-clause-side g c = rw c.in-File.is c.side_at.ensures

pub returns-in-File-clause-other : goal.returns-in-File-clause-other
returns-in-File-clause-other g c = rw c.in-File.is c.side_at.ensures

pub returns-in-Database-clause-side : goal.returns-in-Database-clause-side
returns-in-Database-clause-side g c = rw c.in-Database.is (c.side_in.ensures.side, c.side_in.ensures.made)

pub returns-in-Database-clause-other : goal.returns-in-Database-clause-other
returns-in-Database-clause-other g c = rw c.in-Database.is c.side_in.ensures.made
