use Rattle.opc_cli.proofs.Shutting as shutting
use Rattle.opc_cli.proofs.laws.closed_tables_stay_as_they_are.Goals as goal

pub returns : goal.returns
returns g c = record { stay = shutting.stay g.S.Store; give_up = shutting.give_up g.S.Store }
